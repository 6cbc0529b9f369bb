-- How long bytes are once they are escaped, as a sum over the bytes. Assumes nothing.
use mathlib.Core.Path.{◌≡◌, refl, sym, ap₂, ◌∙◌}
use mathlib.Core.Bool.{Bool, true, false, cond, ◌||◌}
use mathlib.Core.List.{List, [], ◌∷◌}
use Prim.Native.Nat.{ℕ, ◌+◌}
use lib.Dec.{eqb}
use lib.ListN.{length, length-append}
use Rattle.std.specs.List.{sum_by}
use Rattle.std.proofs.lemmas.List.Sums.{sum_by-cons}
use Rattle.choice.specs.Pick.{pick}
use Rattle.kiss_layout.specs.Escape.{FEND, FESC, esc_byte, esc}

-- a byte's own place, and one for the byte before it
abbrev pub places : ℕ → ℕ
places b = 1 + cond (eqb b FEND || eqb b FESC) 1 0

places-byte : (b : ℕ) → places b ≡ length (esc_byte b)
unfolding esc_byte pick
places-byte b = by (eqb b FEND) (eqb b FESC)
  where
    by : (p q : Bool) → 1 + cond (p || q) 1 0 ≡ length (pick p (0xDB ∷ 0xDC ∷ []) (pick q (0xDB ∷ 0xDD ∷ []) (b ∷ [])))
    by true q = refl
    by false true = refl
    by false false = refl

pub places-all : (s : List ℕ) → sum_by places s ≡ length (esc s)
unfolding esc
places-all [] = refl
places-all (b ∷ s) = sum_by-cons places b s ∙ ap₂ (λ (m n : ℕ). m + n) (places-byte b) (places-all s) ∙ sym (length-append (esc_byte b) (esc s))
