-- A room after bytes were placed in it: as long as before, the bytes themselves, and what lies before and beyond them. Assumes nothing.
use Prim.Native.Nat.{ℕ, ◌+◌, ◌-◌, ◌≤◌}
use mathlib.Core.Path.{◌≡◌, sym, ap, ◌∙◌}
use mathlib.Core.List.{List, ◌++◌, append_assoc}
use native.Mathlib.Omega.{arith}
use lib.ListN.{length, take, drop, length-drop, take-append-drop}
use lib.Seq.{sets-eq, length-sets, length-take-le, take-append-le, take_at, drop-append-le, drop-append-add, drop_at, drop-drop}
use Rattle.room.specs.Room.{placed}

before : (a b : List ℕ) (m n : ℕ) → m + n ≤ length a → take n (drop m (a ++ b)) ≡ take n (drop m a)
before a b m n h = rw (drop-append-le m a b (omega arith)) (take-append-le n (drop m a) b (omega (arith, length-drop m a)))

beyond : (a b : List ℕ) (m k : ℕ) → length a + k ≡ m → drop m (a ++ b) ≡ drop k b
beyond a b m k h = rw (← h) (drop-append-add a b k)

module _ (r s : List ℕ) (at : ℕ) (fits : at + length r ≤ length s) where
  start : length (take at s) ≡ at
  start = length-take-le at s (omega arith)

  apart : placed r s at ≡ take at s ++ (r ++ drop (at + length r) s)
  apart = append_assoc (take at s) r (drop (at + length r) s)

  pub placed-length : length (placed r s at) ≡ length s
  placed-length = ap length (sym (sets-eq r s at fits)) ∙ length-sets s at r

  pub placed_there : (n : ℕ) → length r ≡ n → take n (drop at (placed r s at)) ≡ r
  placed_there n e = ap (λ (x : List ℕ). take n (drop at x)) apart ∙ ap (take n) (drop_at (take at s) _ at start) ∙ take_at r _ n e

  pub kept_before : (m n : ℕ) → m + n ≤ at → take n (drop m (placed r s at)) ≡ take n (drop m s)
  kept_before m n h =
      ap (λ (x : List ℕ). take n (drop m x)) apart
      ∙ before (take at s) _ m n (omega (arith, start))
      ∙ sym (before (take at s) (drop at s) m n (omega (arith, start)))
      ∙ ap (λ (x : List ℕ). take n (drop m x)) (take-append-drop at s)

  pub kept_beyond : (m : ℕ) → at + length r ≤ m → drop m (placed r s at) ≡ drop m s
  kept_beyond m h =
      let k : ℕ = m - (at + length r) in
      ap (drop m) apart
      ∙ beyond (take at s) _ m (length r + k) (omega (arith, start))
      ∙ drop-append-add r _ k
      ∙ drop-drop k (at + length r) s
      ∙ ap (λ (j : ℕ). drop j s) {x = at + length r + k} {y = m} (omega arith)
