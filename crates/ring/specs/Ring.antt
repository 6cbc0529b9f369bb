-- A ring of places, from document 01's "Bounds for 8": queue places below their number, a full flag only with equal places. Assumes nothing.
use Rattle.std.specs.Prelude.{ℕ, Bool, true, false, ltb, eqb}
use Rattle.choice.specs.Pick.{pick, and}

unfoldable pub sound_ring : ℕ → ℕ → ℕ → Bool → Bool
sound_ring places next curr full = and (ltb next places) (and (ltb curr places) (pick full (eqb next curr) true))

-- none waits
unfoldable pub empty_ring : ℕ → ℕ → Bool → Bool
empty_ring next curr full = pick full false (eqb next curr)
