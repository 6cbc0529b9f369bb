-- What callers use of `loaded`, `stored` and `without`: the two where the place is there, and a block that has no b, byte by byte. Assumes nothing.
use mathlib.Core.Path.{◌≡◌, refl, sym, ap, ◌∙◌}
use mathlib.Core.Bool.{Bool, true, false, false≢true}
use mathlib.Core.List.{List, ◌∷◌, ◌++◌}
use Prim.Native.Nat.{ℕ, ◌+◌, ◌≤◌, ◌<◌}
use native.Mathlib.Omega.{arith}
use lib.Dec.{eqb}
use lib.ListN.{length, take, drop, replicate, length-drop, take-append-drop}
use lib.Seq.{sets, sets-eq, drop-drop, length-take-le}
use borrow.Author.Tests.{le-leb, lt-leb, eqb-false}
use Rattle.choice.specs.Pick.{pick}
use Rattle.blocks.specs.Block.{loaded, stored, without}

pub loaded-yes : (s : List ℕ) (at : ℕ) → at + 16 ≤ length s → loaded s at ≡ take 16 (drop at s)
unfolding loaded pick
loaded-yes s at h = rw (le-leb (at + 16) (length s) h)

pub loaded_no : (s : List ℕ) (at : ℕ) → length s < at + 16 → loaded s at ≡ replicate 16 0
unfolding loaded pick
loaded_no s at h = rw (lt-leb (at + 16) (length s) h)

pub stored-yes : (t d : List ℕ) (at : ℕ) → at + length t ≤ length d → stored t d at ≡ sets d at t
unfolding stored pick
stored-yes t d at h = rw (le-leb (at + length t) (length d) h, sets-eq t d at h)

pub stored_no : (t d : List ℕ) (at : ℕ) → length d < at + length t → stored t d at ≡ d
unfolding stored pick
stored_no t d at h = rw (lt-leb (at + length t) (length d) h)

-- a block that `load16` read where there are sixteen bytes, and what is left behind it
module _ (s t : List ℕ) (at : ℕ) (e : t ≡ loaded s at) (h : at + 16 ≤ length s) where
  pub loaded_in : t ≡ take 16 (drop at s)
  loaded_in = e ∙ loaded-yes s at h

  pub loaded-length : length t ≡ 16
  loaded-length = ap length loaded_in ∙ length-take-le 16 (drop at s) (omega (arith, length-drop at s))

  pub loaded-split : drop at s ≡ t ++ drop (at + 16) s
  loaded-split =
      sym (take-append-drop 16 (drop at s))
      ∙ ap (λ (l : List ℕ). take 16 (drop at s) ++ l) (drop-drop 16 at s)
      ∙ ap (λ (l : List ℕ). l ++ drop (at + 16) s) (sym loaded_in)

-- what `store16` left in a room that had the place
pub stored_in : (t d : List ℕ) (at : ℕ) {e : List ℕ} → e ≡ stored t d at → at + length t ≤ length d → e ≡ sets d at t
stored_in t d at e h = e ∙ stored-yes t d at h

pub without_first : (b x : ℕ) (t : List ℕ) → without b (x ∷ t) ≡ true → x ≡ b → ⊥
unfolding without pick
without_first b x t h = eqb-false x b (by (eqb x b) h)
  where
    by : (p : Bool) → pick p false (without b t) ≡ true → p ≡ false
    by true g = absurd (false≢true g)
    by false g = refl

pub without_rest : (b x : ℕ) (t : List ℕ) → without b (x ∷ t) ≡ true → without b t ≡ true
unfolding without pick
without_rest b x t h = by (eqb x b) h
  where
    by : (p : Bool) → pick p false (without b t) ≡ true → without b t ≡ true
    by true g = absurd (false≢true g)
    by false g = g
