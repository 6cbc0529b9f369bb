-- `packet_read::next_frame` meets its contract. The invariant: what is left of the walk gives what all of it gives. Assumes nothing.
use Rattle.std.proofs.Common.{◌≤◌, ◌≡◌}
use mathlib.Core.Bool.{true}
use Rattle.packets.specs.Queue.{sound_queue, walk}
use Rattle.packet_read.proofs.next_frame.Given as goal

abbrev pub invariant-loop-left : goal.invariant-loop-left
invariant-loop-left l = (walk 4 l.initial.rest l.store ≡ walk l.left l.rest l.store) × (sound_queue l.rest ≡ true) × (l.left ≤ 4)

abbrev pub decreases-loop-left : goal.decreases-loop-left
decreases-loop-left l = l.left
