-- One byte more of a block: read, put and tested. Assumes nothing.
use mathlib.Core.Path.{◌≡◌, refl, sym, ap₂, ◌∙◌}
use mathlib.Core.Bool.{Bool, true, false, not, ◌&&◌}
use mathlib.Core.List.{List, [], ◌∷◌, ◌++◌}
use Prim.Native.Nat.{ℕ, suc, ◌+◌, ◌≤◌, ◌<◌}
use native.Mathlib.Numerals.{add-one}
use native.Mathlib.Omega.{arith}
use lib.Dec.{eqb}
use lib.ListN.{length, take, drop, get_or, set, length-drop, drop_of_length-le}
use lib.Seq.{sets, take-suc, take-suc-set, drop-cons, get_or-drop}
use Rattle.choice.specs.Pick.{pick}
use Rattle.blocks.specs.Block.{without}

pub read_more : (s t : List ℕ) (at k : ℕ) → k < length t → at + k < length s
    → take k t ≡ take k (drop at s) → take (k + 1) (set t k (get_or s (at + k) 0)) ≡ take (k + 1) (drop at s)
read_more s t at k h g e =
    let p : k < length (drop at s) = omega (arith, length-drop at s) in
    rw (add-one k)
    (take-suc-set t k (get_or s (at + k) 0) h
    ∙ ap₂ (λ (a : List ℕ) (b : ℕ). a ++ (b ∷ [])) e (sym (get_or-drop at s k 0))
    ∙ sym (take-suc (drop at s) k 0 p))

pub put_more : (d t : List ℕ) (at k : ℕ) {r : List ℕ} → k < length t
    → sets d (at + k) (drop k t) ≡ r → sets (set d (at + k) (get_or t k 0)) (at + (k + 1)) (drop (k + 1) t) ≡ r
put_more d t at k h e =
    let p : at + (k + 1) ≡ suc (at + k) = omega arith in
    rw (p, add-one k) (rw (drop-cons t k 0 h) at e)

-- clear so far and clear from here on
step : (clear p w : Bool) → ((clear && not p) && w) ≡ (clear && pick p false w)
unfolding pick
step true true w = refl
step true false w = refl
step false p w = refl

pub test_more : (b : ℕ) (t : List ℕ) (k : ℕ) (clear : Bool) → k < length t
    → ((clear && not (eqb (get_or t k 0) b)) && without b (drop (k + 1) t)) ≡ (clear && without b (drop k t))
unfolding without
test_more b t k clear h = rw (add-one k, drop-cons t k 0 h) (step clear (eqb (get_or t k 0) b) (without b (drop (suc k) t)))

pub test_done : (b : ℕ) (t : List ℕ) (k : ℕ) (clear : Bool) → length t ≤ k → clear ≡ (clear && without b (drop k t))
unfolding without
test_done b t k true h = rw (drop_of_length-le t h)
test_done b t k false h = refl
