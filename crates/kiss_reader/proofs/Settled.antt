-- What `settle` leaves: nothing, or one FEND with no FEND behind it. Assumes nothing.
use mathlib.Core.Path.{◌≡◌, refl}
use mathlib.Core.Bool.{Bool, true, false}
use mathlib.Core.List.{List, [], ◌∷◌}
use Prim.Native.Nat.{ℕ, ◌≤◌}
use native.Mathlib.Omega.{arith}
use lib.ListN.{length, get_or}
use borrow.Author.Tests.{eqb-true}
use Rattle.choice.specs.Pick.{pick}
use Rattle.kiss_layout.specs.Escape.{FEND}
use Rattle.kiss_layout.specs.Scan.{is_fend, after_fends}
use Rattle.kiss_reader.specs.Reader.{from_fend, last_fend, settle}

-- ---- shapes

-- from the first FEND on
pub data Begun : List ℕ → Type 0 where
  none_begun : Begun []
  begins : (x : List ℕ) → Begun (FEND ∷ x)

pub begun : (h : List ℕ) → Begun (from_fend h)
unfolding from_fend pick
begun [] = none_begun
begun (b ∷ h) = by (is_fend b) refl (begun h)
  where
    by : (t : Bool) → is_fend b ≡ t → Begun (from_fend h) → Begun (pick t (b ∷ h) (from_fend h))
    by true e g = rw (eqb-true b FEND e) (begins h)
    by false e g = g

pub data Settled : List ℕ → Type 0 where
  bare : Settled []
  alone : Settled (FEND ∷ [])
  fronted : (b : ℕ) (x : List ℕ) → is_fend b ≡ false → Settled (FEND ∷ b ∷ x)

past_fends : (x : List ℕ) → Settled (FEND ∷ after_fends x)
unfolding after_fends pick
past_fends [] = alone
past_fends (b ∷ x) = by (is_fend b) refl (past_fends x)
  where
    by : (t : Bool) → is_fend b ≡ t → Settled (FEND ∷ after_fends x) → Settled (FEND ∷ pick t (after_fends x) (b ∷ x))
    by true e ih = ih
    by false e ih = fronted b x e

last_settled : {g : List ℕ} → Begun g → Settled (last_fend g)
last_settled none_begun = bare
last_settled (begins x) = past_fends x

pub settled : (h : List ℕ) → Settled (settle h)
unfolding settle
settled h = last_settled (begun h)

-- ---- what is settled begins with FEND, and stays

pub settled_begun : {g : List ℕ} → Settled g → Begun g
settled_begun bare = none_begun
settled_begun alone = begins []
settled_begun (fronted b x e) = begins (b ∷ x)

pub settled_stays : {g : List ℕ} → Settled g → settle g ≡ g
unfolding settle from_fend after_fends pick
settled_stays bare = refl
settled_stays alone = refl
settled_stays (fronted b x e) = rw e

pub begun-begins : {g : List ℕ} → Begun g → 1 ≤ length g → get_or g 0 0 ≡ FEND
begun-begins none_begun l = absurd (omega arith)
begun-begins (begins x) l = refl
