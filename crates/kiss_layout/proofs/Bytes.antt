-- A byte is FEND, FESC or another. Assumes nothing.
use Prim.Native.Nat.{ℕ}
use mathlib.Core.Bool.{Bool, true, false}
use mathlib.Core.Path.{◌≡◌, refl}
use lib.Dec.{eqb}
use borrow.Author.Tests.{eqb-true, eqb-false}
use Rattle.kiss_layout.specs.Escape.{FEND, FESC}

pub data Kind (b : ℕ) : Type 0 where
  fend : b ≡ FEND → Kind b
  fesc : b ≡ FESC → Kind b
  other : (b ≡ FEND → ⊥) → (b ≡ FESC → ⊥) → Kind b

pub kind : (b : ℕ) → Kind b
kind b = by (eqb b FEND) (eqb b FESC) refl refl
  where
    by : (p q : Bool) → eqb b FEND ≡ p → eqb b FESC ≡ q → Kind b
    by true q e f = fend (eqb-true b FEND e)
    by false true e f = fesc (eqb-true b FESC f)
    by false false e f = other (eqb-false b FEND e) (eqb-false b FESC f)
