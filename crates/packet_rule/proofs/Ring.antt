-- Going round the four places, and how many of them wait. Assumes nothing.
use Prim.Native.Nat.{ℕ, zero, suc, ◌+◌, ◌%◌, ◌≤◌, ◌<◌}
use mathlib.Core.Path.{◌≡◌, refl, sym, ap, ◌∙◌}
use mathlib.Core.Logic.{◌≢◌}
use mathlib.Core.Bool.{Bool, true, false, false≢true}
use mathlib.Core.List.{List, ◌++◌, append-nil, append_assoc}
use native.Mathlib.Omega.{arith}
use borrow.Author.Tests.{eqb-true, eqb-false}
use lib.Dec.{eqb}
use Rattle.choice.specs.Pick.{pick}
use Rattle.packets.specs.Frames.{AirFrame}
use Rattle.packet_rule.specs.Left.{waiting, in_turn}

-- ---- going round

-- the same frames at each place that is met
pub turn-same : (f g : ℕ → List AirFrame) (n k : ℕ) → k < 4 → ((j : ℕ) → j < n → f ((k + j) % 4) ≡ g ((k + j) % 4)) → in_turn f n k ≡ in_turn g n k
unfolding in_turn
turn-same f g zero k h e = refl
turn-same f g (suc n) k h e =
    let a : f k ≡ g k = ap f {x = k} (omega arith) ∙ e 0 (omega arith) ∙ ap g (omega arith) in
    rw (
      a,
      turn-same f g n ((k + 1) % 4) (omega arith)
          (λ j l. ap f {y = (k + suc j) % 4} (omega arith) ∙ e (suc j) (omega arith) ∙ ap g (omega arith)),
    )

-- one place more at the end
pub turn_last : (f : ℕ → List AirFrame) (n k : ℕ) → k < 4 → in_turn f (suc n) k ≡ in_turn f n k ++ f ((k + n) % 4)
unfolding in_turn
turn_last f zero k h = append-nil (f k) ∙ ap f (omega arith)
turn_last f (suc n) k h =
    ap (λ (x : List AirFrame). f k ++ x) (turn_last f n ((k + 1) % 4) (omega arith))
    ∙ sym (append_assoc (f k) _ _)
    ∙ ap (λ (j : ℕ). f k ++ in_turn f n ((k + 1) % 4) ++ f j) (omega arith)

-- ---- how many wait

-- a full flag stands only with equal places
abbrev pub Tied : Bool → ℕ → ℕ → Type 0
Tied full next curr = full ≡ true → next ≡ curr

module _ (next curr : ℕ) (n : next < 4) (c : curr < 4) where
  pub none_wait : (full : Bool) → pick full false (eqb next curr) ≡ true → waiting full next curr ≡ 0
  unfolding waiting pick
  none_wait true e = absurd (false≢true e)
  none_wait false e = let q : next ≡ curr = eqb-true _ _ e in omega arith

  pub some_wait : (full : Bool) → pick full false (eqb next curr) ≡ false → 0 < waiting full next curr
  unfolding waiting pick
  some_wait true e = omega arith
  some_wait false e = let q : next ≢ curr = eqb-false _ _ e in omega arith

  pub four_at_most : (full : Bool) → waiting full next curr ≤ 4
  unfolding waiting pick
  four_at_most true = omega arith
  four_at_most false = omega arith

  -- behind a place that is passed over one less waits
  pub one_less : (full : Bool) (m : ℕ) → Tied full next curr → waiting full next curr ≡ suc m → waiting false next ((curr + 1) % 4) ≡ m
  unfolding waiting pick
  one_less true m t e = let q : next ≡ curr = t refl in omega arith
  one_less false m t e = omega arith

  -- with a packet at `next` one more waits
  pub one_more : waiting (eqb ((next + 1) % 4) curr) ((next + 1) % 4) curr ≡ suc (waiting false next curr)
  unfolding waiting pick
  one_more = by (eqb ((next + 1) % 4) curr) refl
    where
      by : (b : Bool) → eqb ((next + 1) % 4) curr ≡ b → waiting b ((next + 1) % 4) curr ≡ suc (waiting false next curr)
      by true e = let q : (next + 1) % 4 ≡ curr = eqb-true _ _ e in omega arith
      by false e = let q : (next + 1) % 4 ≢ curr = eqb-false _ _ e in omega arith

  -- `next` is the place behind those that wait, and none of them
  pub next-behind : (curr + waiting false next curr) % 4 ≡ next
  unfolding waiting pick
  next-behind = omega arith

  pub next_apart : (j : ℕ) → j < waiting false next curr → (curr + j) % 4 ≢ next
  unfolding waiting pick
  next_apart j h = omega arith
