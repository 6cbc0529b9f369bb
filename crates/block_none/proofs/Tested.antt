-- One byte more of a block that is tested. Assumes nothing.
use mathlib.Core.Path.{◌≡◌, refl}
use mathlib.Core.Bool.{Bool, true, false, not, ◌&&◌}
use mathlib.Core.List.{List, [], ◌∷◌, ◌++◌}
use Prim.Native.Nat.{ℕ}
use lib.Dec.{eqb}
use Rattle.choice.specs.Pick.{pick}
use Rattle.blocks.specs.Block.{without}

pub tested : (b x : ℕ) (t : List ℕ) → (without b t && not (eqb x b)) ≡ without b (t ++ (x ∷ []))
unfolding without pick
tested b x [] = by (eqb x b)
  where
    by : (p : Bool) → (true && not p) ≡ pick p false true
    by true = refl
    by false = refl
tested b x (y ∷ t) = by (eqb y b) (tested b x t)
  where
    by : (p : Bool) → (without b t && not (eqb x b)) ≡ without b (t ++ (x ∷ []))
        → (pick p false (without b t) && not (eqb x b)) ≡ pick p false (without b (t ++ (x ∷ [])))
    by true h = refl
    by false h = h
