-- `event_step::number` meets its contract. Assumes nothing.
use Rattle.std.proofs.Common.{◌≡◌}
use lib.ListN.{drop}
use Rattle.event_step.specs.Numbers.{behind}
use Rattle.event_step.proofs.number.Given as goal

abbrev pub invariant-loop-byte : goal.invariant-loop-byte
invariant-loop-byte l = behind l.n (drop l.byte-index l.bytes) ≡ behind 0 l.bytes
