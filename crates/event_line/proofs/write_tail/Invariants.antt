-- `event_line::write_tail` meets its contract. Assumes nothing.
use Rattle.std.proofs.Common.{◌+◌, ◌*◌, ◌≤◌, ◌≡◌}
use lib.Seq.{sets}
use lib.ListN.{length, drop}
use Rattle.event_line.specs.Line.{hex_of}
use Rattle.event_line.proofs.write_tail.Given as goal

abbrev pub invariant-loop-b : goal.invariant-loop-b
invariant-loop-b l = (l.j ≡ l.at + 1 + 2 * l.b-index) × (l.at + 2 + 2 * length l.src ≤ length l.dst) × (sets l.dst l.j (hex_of (drop l.b-index l.src)) ≡ sets l.initial.dst (l.at + 1) (hex_of l.src))
