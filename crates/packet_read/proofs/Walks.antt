-- One turn of the walk, for the loop over the places. Assumes nothing.
use Prim.Native.Nat.{ℕ, zero, suc, ◌-◌, ◌<◌}
use mathlib.Core.Path.{◌≡◌, refl, sym, ap, ◌∙◌}
use mathlib.Core.Bool.{Bool, true, false, ◌||◌, false≢true}
use mathlib.Core.List.{List}
use native.Mathlib.Omega.{arith}
use borrow.Author.Tests.{ne_eqb}
use lib.Dec.{eqb}
use Rattle.std.specs.Prelude.{Ok, Some}
use Rattle.choice.specs.Pick.{pick_yes}
use Rattle.protocol.specs.declared.ModulatorFrame.TheVariants.{EndOfTransmission}
use Rattle.packets.specs.declared.PacketQueue.{PacketQueue}
use Rattle.packets.specs.declared.PacketRead.{PacketRead}
use Rattle.packets.specs.Queue.{is_empty, not_read, advanced, turn, walk}

one_less : (n : ℕ) → suc n - 1 ≡ n
one_less n = omega arith

walk_step : (n : ℕ) (q : PacketQueue) (store : List ℕ) → 0 < n → walk n q store ≡ turn q store (walk (n - 1) (advanced q) store)
unfolding walk
walk_step zero q store h = absurd (omega arith)
walk_step (suc n) q store h = rw (one_less n)

module _ (store : List ℕ) (q : PacketQueue) (n : ℕ) (h : 0 < n) {w : PacketRead} (e : w ≡ walk n q store) where
  -- the turn yields r
  pub yields : {r : PacketRead} → r ≡ turn q store (walk (n - 1) (advanced q) store) → r ≡ w
  yields f = f ∙ sym (e ∙ walk_step n q store h)

  -- the turn passes over the place
  pub passes : walk (n - 1) (advanced q) store ≡ turn q store (walk (n - 1) (advanced q) store) → w ≡ walk (n - 1) (advanced q) store
  passes f = e ∙ walk_step n q store h ∙ sym f

-- while some are left the test is of the queue alone
some_left : (n : ℕ) {b c : Bool} → (eqb (suc n) 0 || b) ≡ c → b ≡ c
some_left n {b} f = ap (λ (t : Bool). t || b) (sym (ne_eqb (suc n) 0 (λ z. absurd (omega (arith, z))))) ∙ f

-- the walk ends where all four places were passed over, or no more wait
pub ended : (n : ℕ) (q : PacketQueue) (store : List ℕ) {b : Bool} → b ≡ is_empty q → (eqb n 0 || b) ≡ true → not_read (Ok (Some EndOfTransmission)) q ≡ walk n q store
unfolding walk turn
ended zero q store e f = refl
ended (suc n) q store e f = pick_yes _ (sym e ∙ some_left n f) refl

-- and goes on where neither holds
pub going : (n : ℕ) {b : Bool} → (eqb n 0 || b) ≡ false → (0 < n) × (b ≡ false)
going zero f = absurd (false≢true (sym f))
going (suc n) f = (omega arith, some_left n f)
