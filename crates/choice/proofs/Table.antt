-- A rule of a table, proved at all of its entries by one test that is computed over the whole of it. Assumes nothing.
use mathlib.Core.Path.{◌∙◌, subst, sym}
use mathlib.Core.Bool.{Bool, true, false}
use mathlib.Core.List.{List, [], ◌∷◌}
use Prim.Native.Nat.{ℕ, zero, suc, ◌+◌, ◌<◌}
use native.Mathlib.Nat.{add-zero, zero-add, add-suc, suc-add, le_of_suc-le-suc, not-suc-le-zero}
use lib.Dec.{T}
use lib.ListN.{length, get_or}
use Rattle.choice.specs.Pick.{and}

and_left : (a b : Bool) → T (and a b) → T a
unfolding and
and_left true b t = tt
and_left false b t = t

and_right : (a b : Bool) → T (and a b) → T b
unfolding and
and_right true b t = t
and_right false b t = absurd t

-- the test f passes at each entry of the list and its place, counted from i
abbrev pub every : (ℕ → ℕ → Bool) → ℕ → List ℕ → Bool
every f i [] = true
every f i (x ∷ xs) = and (f i x) (every f (suc i) xs)

from : (f : ℕ → ℕ → Bool) (xs : List ℕ) (i : ℕ) → T (every f i xs) → (k : ℕ) → k < length xs → T (f (i + k) (get_or xs k 0))
from f [] i t k h = absurd (not-suc-le-zero h)
from f (x ∷ xs) i t zero h = subst (λ (m : ℕ). T (f m x)) (sym (add-zero i)) (and_left (f i x) (every f (suc i) xs) t)
from f (x ∷ xs) i t (suc k) h =
    subst (λ (m : ℕ). T (f m (get_or xs k 0))) (suc-add i k ∙ sym (add-suc i k))
    (from f xs (suc i) (and_right (f i x) (every f (suc i) xs) t) k (le_of_suc-le-suc h))

pub at : (f : ℕ → ℕ → Bool) (xs : List ℕ) → T (every f 0 xs) → (k : ℕ) → k < length xs → T (f k (get_or xs k 0))
at f xs t k h = subst (λ (m : ℕ). T (f m (get_or xs k 0))) (zero-add k) (from f xs 0 t k h)

-- the test f passes at each of the n numbers from i on
abbrev pub each : (ℕ → Bool) → ℕ → ℕ → Bool
each f i zero = true
each f i (suc n) = and (f i) (each f (suc i) n)

each_from : (f : ℕ → Bool) (n i : ℕ) → T (each f i n) → (k : ℕ) → k < n → T (f (i + k))
each_from f zero i t k h = absurd (not-suc-le-zero h)
each_from f (suc n) i t zero h = subst (λ (m : ℕ). T (f m)) (sym (add-zero i)) (and_left (f i) (each f (suc i) n) t)
each_from f (suc n) i t (suc k) h =
    subst (λ (m : ℕ). T (f m)) (suc-add i k ∙ sym (add-suc i k))
    (each_from f n (suc i) (and_right (f i) (each f (suc i) n) t) k (le_of_suc-le-suc h))

pub below : (f : ℕ → Bool) (n : ℕ) → T (each f 0 n) → (k : ℕ) → k < n → T (f k)
below f n t k h = subst (λ (m : ℕ). T (f m)) (zero-add k) (each_from f n 0 t k h)

-- the same of a test of two numbers
pub below_two : (f : ℕ → ℕ → Bool) (n m : ℕ) → T (each (λ (k : ℕ). each (f k) 0 m) 0 n) → (k j : ℕ) → k < n → j < m → T (f k j)
below_two f n m t k j h g = below (f k) m (below (λ (i : ℕ). each (f i) 0 m) n t k h) j g
