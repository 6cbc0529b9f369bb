-- Where FENDs stand in a run of bytes, from document 01's "Split the input at each FEND" and "the first byte that is not FEND". Assumes nothing.
use Rattle.std.specs.Prelude.{ℕ, suc, Bool, not, List, [], ◌∷◌, eqb}
use Rattle.std.proofs.Math.Option.{Option, none, some, map}
use Rattle.choice.specs.Pick.{pick}
use Rattle.kiss_layout.specs.Escape.{FEND}

abbrev pub is_fend : ℕ → Bool
is_fend b = eqb b FEND

abbrev pub not_fend : ℕ → Bool
not_fend b = not (is_fend b)

-- the bytes before the first FEND, if there is one
unfoldable pub stretch : List ℕ → Option (List ℕ)
stretch [] = none
stretch (b ∷ s) = pick (is_fend b) (some []) (map (λ t. b ∷ t) (stretch s))

-- what is left once the FENDs at the front are passed over
unfoldable pub after_fends : List ℕ → List ℕ
after_fends [] = []
after_fends (b ∷ s) = pick (is_fend b) (after_fends s) (b ∷ s)

-- how many bytes at the front pass a test
unfoldable pub run_of : (ℕ → Bool) → List ℕ → ℕ
run_of p [] = 0
run_of p (b ∷ s) = pick (p b) (suc (run_of p s)) 0
