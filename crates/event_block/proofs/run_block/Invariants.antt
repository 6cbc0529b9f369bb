-- `event_block::run_block` meets its contract. Assumes nothing.
use Rattle.std.proofs.Common.{◌-◌, ◌≤◌, ◌≡◌}
use lib.ListN.{length, drop}
use Rattle.event_step.specs.Step.{world_of}
use Rattle.event_block.specs.Spot.{spot}
use Rattle.event_block.specs.Block.{walk}
use Rattle.event_block.proofs.run_block.Given as goal

abbrev pub invariant-loop-dst : goal.invariant-loop-dst
invariant-loop-dst l = (l.at ≤ length l.src) × (l.wrote ≤ length l.dst) × (length l.dst ≡ length l.initial.dst) × (length l.reader ≡ length l.initial.reader) × (length l.packets ≡ length l.initial.packets) × (length l.streams ≡ length l.initial.streams) × (length l.rx ≡ length l.initial.rx) × (length l.message ≡ length l.initial.message) × (length l.bytes ≡ length l.initial.bytes) × (walk 0 (drop l.at l.src) l.at (spot (world_of l.station l.reader l.packets l.streams l.rx l.message) l.bytes l.dst l.wrote) ≡ walk 0 l.src 0 (spot (world_of l.initial.station l.initial.reader l.initial.packets l.initial.streams l.initial.rx l.initial.message) l.initial.bytes l.initial.dst 0))

abbrev pub decreases-loop-dst : goal.decreases-loop-dst
decreases-loop-dst l = length l.src - l.at
