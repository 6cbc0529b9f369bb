-- `kiss_unescape::unescape` meets its contract. The loop's invariant says what is left to do: laying the codes of src from i on, from j on, gives what laying all of them from 0 on gave at the start. Assumes nothing.
use Rattle.std.proofs.Common.{◌+◌, ◌-◌, ◌≤◌, ◌≡◌}
use lib.ListN.{length, drop}
use Rattle.kiss_layout.specs.Unescape.{codes}
use Rattle.kiss_unescape.specs.Lays.{lays}
use Rattle.kiss_unescape.proofs.unescape.Given as goal

-- up to the stop both src and dst go
abbrev pub invariant-loop-stop : goal.invariant-loop-stop
invariant-loop-stop l =
    (l.i ≤ length l.src)
    × (l.j ≤ length l.dst)
    × (length l.dst ≡ length l.initial.dst)
    × (l.j + length (codes (drop l.i l.src)) ≡ length (codes l.src))
    × (lays l.dst l.j (codes (drop l.i l.src)) ≡ lays l.initial.dst 0 (codes l.src))
    × (l.stop ≤ length l.src)
    × (l.j + (l.stop - l.i) ≤ length l.dst)

-- a turn goes on in src, or, with blocks, moves the stop
abbrev pub decreases-loop-stop : goal.decreases-loop-stop
decreases-loop-stop l = (length l.src - l.i) + (length l.src - l.stop)
