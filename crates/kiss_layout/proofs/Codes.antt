-- The laws of `codes` at the head of a content. Assumes nothing.
use mathlib.Core.Path.{◌≡◌}
use mathlib.Core.Bool.{true, false, ◌||◌}
use mathlib.Core.List.{List, [], ◌∷◌}
use Prim.Native.Nat.{ℕ}
use lib.Dec.{eqb}
use borrow.Author.Tests.{eq-eqb, ne_eqb}
use Rattle.choice.specs.Pick.{pick, pick_either, pick_neither}
use Rattle.kiss_layout.specs.Escape.{FEND, FESC, TFEND, TFESC}
use Rattle.kiss_layout.specs.Unescape.{byte, as_found, after_fesc, codes}

pub after_fesc-known : (b : ℕ) {r : ℕ} → (eqb b TFEND || eqb b TFESC) ≡ true → r ≡ pick (eqb b TFEND) FEND FESC → after_fesc b ≡ byte r
unfolding after_fesc
after_fesc-known b h e = rw e (pick_either byte (eqb b TFEND) (eqb b TFESC) FEND FESC as_found h)

pub after_fesc-other : (b : ℕ) → (eqb b TFEND || eqb b TFESC) ≡ false → after_fesc b ≡ as_found
unfolding after_fesc
after_fesc-other b h = pick_neither (eqb b TFEND) (eqb b TFESC) _ _ as_found h

pub codes_byte : (b : ℕ) (s : List ℕ) → (b ≡ FESC → ⊥) → codes (b ∷ s) ≡ byte b ∷ codes s
unfolding codes pick
codes_byte b [] f = rw (ne_eqb b FESC f)
codes_byte b (e ∷ s) f = rw (ne_eqb b FESC f)

pub codes_pair : (b e : ℕ) (s : List ℕ) → b ≡ FESC → codes (b ∷ e ∷ s) ≡ after_fesc e ∷ codes s
unfolding codes pick
codes_pair b e s h = rw (eq-eqb b FESC h)

pub codes_last : (b : ℕ) → b ≡ FESC → codes (b ∷ []) ≡ []
unfolding codes pick
codes_last b h = rw (eq-eqb b FESC h)
