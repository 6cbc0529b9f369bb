-- The laws of `esc`: one byte, a list, and one step of a loop that reads at an index. Assumes nothing.
use mathlib.Core.Path.{◌≡◌, refl, ap, ◌∙◌}
use mathlib.Core.Bool.{true, false, ◌||◌}
use mathlib.Core.List.{List, [], ◌∷◌, ◌++◌, append_assoc}
use Prim.Native.Nat.{ℕ, ◌+◌, ◌*◌, ◌≤◌, ◌<◌}
use native.Mathlib.Numerals.{add-one}
use native.Mathlib.Omega.{arith}
use lib.Dec.{eqb}
use lib.ListN.{length, drop, get_or, length-append, drop_of_length-le}
use lib.Seq.{drop-cons}
use borrow.Author.Tests.{eq-eqb, ne_eqb, le-leb, lt-leb}
use Rattle.choice.specs.Pick.{pick, pick_either, pick_neither}
use Rattle.room.specs.Room.{over, no_room}
use Rattle.std.specs.Prelude.{Ok, Result, ℕ, Err}
use Rattle.room.specs.declared.NoRoom.{NoRoom}
use Rattle.kiss_layout.specs.Escape.{FEND, FESC, TFEND, TFESC, esc_byte, esc, escaped}
use Rattle.kiss_layout.proofs.Bytes.{Kind, fend, fesc, other, kind}

-- ---- one byte

pub esc_byte-fend : (b : ℕ) → b ≡ FEND → esc_byte b ≡ FESC ∷ TFEND ∷ []
unfolding esc_byte pick
esc_byte-fend b h = rw (eq-eqb b FEND h)

pub esc_byte-fesc : (b : ℕ) → b ≡ FESC → esc_byte b ≡ FESC ∷ TFESC ∷ []
unfolding esc_byte pick
esc_byte-fesc b h = rw h

pub esc_byte-other : (b : ℕ) → (b ≡ FEND → ⊥) → (b ≡ FESC → ⊥) → esc_byte b ≡ b ∷ []
unfolding esc_byte pick
esc_byte-other b f g = rw (ne_eqb b FEND f, ne_eqb b FESC g)

-- by one test for both
esc_byte-special : (b : ℕ) {r : ℕ} → (eqb b FEND || eqb b FESC) ≡ true → r ≡ pick (eqb b FEND) TFEND TFESC → esc_byte b ≡ FESC ∷ r ∷ []
unfolding esc_byte
esc_byte-special b h e = rw e (pick_either (λ (r : ℕ). FESC ∷ r ∷ []) (eqb b FEND) (eqb b FESC) TFEND TFESC (b ∷ []) h)

esc_byte-plain : (b : ℕ) → (eqb b FEND || eqb b FESC) ≡ false → esc_byte b ≡ b ∷ []
unfolding esc_byte
esc_byte-plain b h = pick_neither (eqb b FEND) (eqb b FESC) _ _ (b ∷ []) h

esc_byte-length : (b : ℕ) → Kind b → (1 ≤ length (esc_byte b)) × (length (esc_byte b) ≤ 2)
esc_byte-length b (fend e) = rw (esc_byte-fend b e) (omega arith)
esc_byte-length b (fesc e) = rw (esc_byte-fesc b e) (omega arith)
esc_byte-length b (other f g) = rw (esc_byte-other b f g) (omega arith)

-- ---- a list

pub esc-length : (s : List ℕ) → (length s ≤ length (esc s)) × (length (esc s) ≤ 2 * length s)
unfolding esc
esc-length [] = omega arith
esc-length (b ∷ s) = omega (arith, length-append (esc_byte b) (esc s), esc_byte-length b (kind b), esc-length s)

pub esc_append : (s t : List ℕ) → esc (s ++ t) ≡ esc s ++ esc t
unfolding esc
esc_append [] t = refl
esc_append (b ∷ s) t = rw (esc_append s t, append_assoc)

-- ---- from index i on

module _ (s : List ℕ) (i : ℕ) (h : i < length s) where
  esc-at : esc (drop i s) ≡ esc_byte (get_or s i 0) ++ esc (drop (i + 1) s)
  unfolding esc
  esc-at = rw (add-one, drop-cons s i 0)

  pub esc_at_special : {r : ℕ} → (eqb (get_or s i 0) FEND || eqb (get_or s i 0) FESC) ≡ true → r ≡ pick (eqb (get_or s i 0) FEND) TFEND TFESC
      → esc (drop i s) ≡ FESC ∷ r ∷ esc (drop (i + 1) s)
  esc_at_special e f = rw (esc-at, esc_byte-special _ e f)

  pub esc_at_plain : (eqb (get_or s i 0) FEND || eqb (get_or s i 0) FESC) ≡ false → esc (drop i s) ≡ get_or s i 0 ∷ esc (drop (i + 1) s)
  esc_at_plain e = rw (esc-at, esc_byte-plain _ e)

pub esc-done : (s : List ℕ) (i : ℕ) → length s ≤ i → esc (drop i s) ≡ []
unfolding esc
esc-done s i h = rw (drop_of_length-le s h)

-- ---- the answer of `escape`

pub escaped-yes : (s d : List ℕ) → length (esc s) ≤ length d → escaped s d ≡ (Ok (length (esc s)), over (esc s) d)
unfolding escaped pick
escaped-yes s d h = rw (le-leb (length (esc s)) (length d) h)

-- what `escape` left in a room that had the place
pub escaped_in : (s d : List ℕ) {r : Result ℕ NoRoom} {e : List ℕ} → (r, e) ≡ escaped s d → length (esc s) ≤ length d → e ≡ over (esc s) d
escaped_in s d h fit = ap (λ (p : Result ℕ NoRoom × List ℕ). p.1) (h ∙ escaped-yes s d fit)

pub escaped_no : (s d : List ℕ) → length d < length (esc s) → escaped s d ≡ (Err no_room, d)
unfolding escaped pick
escaped_no s d h = rw (lt-leb (length (esc s)) (length d) h)
