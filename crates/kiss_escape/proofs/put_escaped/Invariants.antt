-- `kiss_escape::put_escaped` meets its contract. The loop's invariant says what is left to do: storing what src from the loop's block on is escaped to, from j on, gives what storing all of it from 0 on gave at the start. Assumes nothing.
use Rattle.std.proofs.Common.{◌+◌, ◌*◌, ◌≡◌}
use lib.Seq.{sets}
use lib.ListN.{length, drop}
use Rattle.kiss_layout.specs.Escape.{esc}
use Rattle.kiss_escape.proofs.put_escaped.Given as goal

abbrev pub invariant-loop-block : goal.invariant-loop-block
invariant-loop-block l =
    (length l.dst ≡ length l.initial.dst)
    × (l.j + length (esc (drop (l.block-index * 16) l.src)) ≡ length (esc l.src))
    × (sets l.dst l.j (esc (drop (l.block-index * 16) l.src)) ≡ sets l.initial.dst 0 (esc l.src))
