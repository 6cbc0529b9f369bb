-- `kiss_escape::put_each` meets its contract. The loop's invariant says what is left to do: storing what src from the loop's byte on is escaped to, from j on, gives what storing all of it gave at the start. Assumes nothing.
use Rattle.std.proofs.Common.{◌+◌, ◌≡◌}
use lib.Seq.{sets}
use lib.ListN.{length, drop}
use Rattle.kiss_layout.specs.Escape.{esc}
use Rattle.kiss_escape.proofs.put_each.Given as goal

abbrev pub invariant-loop-b : goal.invariant-loop-b
invariant-loop-b l =
    (length l.dst ≡ length l.initial.dst)
    × (l.j + length (esc (drop l.b-index l.src)) ≡ l.to + length (esc l.src))
    × (sets l.dst l.j (esc (drop l.b-index l.src)) ≡ sets l.initial.dst l.to (esc l.src))
