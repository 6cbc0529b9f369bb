-- `store::put` meets its contract. The invariant says what is left: storing src from i on, from at + i on, gives what storing all of it gave at the start. Assumes nothing.
use Rattle.std.proofs.Common.{◌+◌, ◌-◌, ◌≤◌, ◌≡◌}
use lib.ListN.{length, drop}
use lib.Seq.{sets}
use Rattle.store.proofs.put.Given as goal

abbrev pub invariant-loop-i : goal.invariant-loop-i
invariant-loop-i l = (l.i ≤ length l.src) × (length l.dst ≡ length l.initial.dst) × (sets l.dst (l.at + l.i) (drop l.i l.src) ≡ sets l.initial.dst l.at l.src)

abbrev pub decreases-loop-i : goal.decreases-loop-i
decreases-loop-i l = length l.src - l.i
