-- What stands at a place of the input, from the tests of the code. Assumes nothing.
use Prim.Native.Nat.{ℕ, ◌+◌, ◌-◌, ◌≤◌, ◌<◌}
use mathlib.Core.Bool.{true, false}
use mathlib.Core.Path.{◌≡◌, refl, ap}
use mathlib.Core.List.{List}
use borrow.Author.Tests.{lt-ltb, le-ltb, le-leb, lt-leb}
use lib.ListN.{length, get_or}
use Rattle.choice.specs.Pick.{and, pick_yes, pick_no}
use Rattle.event_input.specs.declared.Next.TheVariants.{Complete, Cut, Unknown, End}
use Rattle.event_input.specs.Events.{known, body_len, next_at}

pub known-low : {k : ℕ} → k < 1 → known k ≡ false
unfolding known and
known-low {k = k} h = rw (lt-leb 1 k h)

pub known-high : {k : ℕ} → 1 ≤ k → 9 < k → known k ≡ false
unfolding known and
known-high {k = k} h g = rw (le-leb 1 k h, lt-leb k 9 g)

pub known-yes : {k : ℕ} → 1 ≤ k → k ≤ 9 → known k ≡ true
unfolding known and
known-yes {k = k} h g = rw (le-leb 1 k h, le-leb k 9 g)

module _ (s : List ℕ) (at : ℕ) where
  pub is_end : length s ≤ at → End ≡ next_at s at
  unfolding next_at
  is_end h = pick_no _ (le-ltb at (length s) h) refl

  pub is_unknown : at < length s → known (get_or s at 0) ≡ false → Unknown (get_or s at 0) ≡ next_at s at
  unfolding next_at
  is_unknown h k = pick_yes _ (lt-ltb at (length s) h) (pick_no _ k refl)

  pub is_cut : {n : ℕ} → at < length s → known (get_or s at 0) ≡ true → n ≡ body_len (get_or s at 0) → length s - (at + 1) < n → Cut (get_or s at 0) ≡ next_at s at
  unfolding next_at
  is_cut h k e g = pick_yes _ (lt-ltb at (length s) h) (pick_yes _ k (pick_no _ (lt-leb (body_len (get_or s at 0)) (length s - (at + 1)) (rw (← e) g)) refl))

  pub is_complete : {n : ℕ} → at < length s → known (get_or s at 0) ≡ true → n ≡ body_len (get_or s at 0) → n ≤ length s - (at + 1) → Complete (get_or s at 0) (at + 1) (at + 1 + n) ≡ next_at s at
  unfolding next_at
  is_complete h k e g = pick_yes _ (lt-ltb at (length s) h) (pick_yes _ k (pick_yes _ (le-leb (body_len (get_or s at 0)) (length s - (at + 1)) (rw (← e) g)) (ap (λ (n : ℕ). Complete (get_or s at 0) (at + 1) (at + 1 + n)) e)))
