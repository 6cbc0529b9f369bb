-- `kiss_unescape::put_plain` meets its contract. The invariant says what is left to do behind n bytes, and a block leaves as much. Assumes nothing.
use Rattle.std.proofs.Common.{ℕ, ◌+◌, ◌*◌, ◌≤◌, ◌≡◌}
use mathlib.Core.List.{List}
use lib.ListN.{length, drop}
use Rattle.kiss_layout.specs.Unescape.{codes}
use Rattle.kiss_unescape.specs.Lays.{lays}
use Rattle.kiss_unescape.proofs.put_plain.Given as goal

-- what is left behind n bytes of src, with dst as it is now, against what was left at the start
abbrev pub Left : List ℕ → List ℕ → ℕ → List ℕ → ℕ → Type 0
Left src dst₀ to dst n =
    (n ≤ length src)
    × (to + n ≤ length dst₀)
    × (n + length (codes (drop n src)) ≡ length (codes src))
    × (lays dst (to + n) (codes (drop n src)) ≡ lays dst₀ to (codes src))

abbrev pub invariant-loop-block : goal.invariant-loop-block
invariant-loop-block l = (length l.dst ≡ length l.initial.dst) × (l.n ≡ l.block-index * 16) × Left l.src l.initial.dst l.to l.dst l.n
