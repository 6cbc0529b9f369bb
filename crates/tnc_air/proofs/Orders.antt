-- The cases of a packet's frame by its index: each from the tests on the way to it. Assumes nothing.
use Prim.Native.Nat.{ℕ, ◌+◌, ◌≤◌, ◌<◌}
use mathlib.Core.Path.{◌≡◌, refl, sym}
use mathlib.Core.List.{List}
use lib.ListN.{length}
use borrow.Author.Tests.{eq-eqb, ne_eqb, lt-ltb, le-ltb}
use Rattle.choice.specs.Pick.{pick}
use Rattle.room.specs.Room.{placed}
use Rattle.state.specs.declared.State.TheVariants.{RxPacket}
use Rattle.radio.specs.declared.Radio.{Radio}
use Rattle.std.specs.Prelude.{Err}
use Rattle.radio.specs.declared.AirError.TheVariants.{WrongStore}
use Rattle.radio.specs.declared.Heard.{Heard}
use Rattle.radio.specs.Radio.{RX, answered, turned}
use Rattle.tnc_air.specs.Collected.{idle, place_of, collected_after, collected_at}

module _ (r : Radio) (count index : ℕ) (payload rx : List ℕ) where
  pub wrong_store : {x : Heard} → x ≡ answered (Err WrongStore) r → (length rx ≡ RX → ⊥) → (x, rx) ≡ collected_at r count index payload rx
  unfolding collected_at pick
  wrong_store e n = rw (ne_eqb (length rx) RX n) (λ t. (e t, rx))

  -- a store of the right length
  pub in_store : {h : Heard × List ℕ} → length rx ≡ RX → h ≡ collected_after r count index payload rx → h ≡ collected_at r count index payload rx
  unfolding collected_at pick
  in_store n e = rw (eq-eqb (length rx) RX n) e

  pub in_right_store : length rx ≡ RX → collected_at r count index payload rx ≡ collected_after r count index payload rx
  in_right_store n = sym (in_store n refl)

  pub out_of_order : {x : Heard} → x ≡ idle r → (index ≡ count → ⊥) → (x, rx) ≡ collected_after r count index payload rx
  unfolding collected_after pick
  out_of_order e n = rw (ne_eqb index count n) (λ t. (e t, rx))

  pub too_many : {x : Heard} → x ≡ idle r → index ≡ count → 32 ≤ index → (x, rx) ≡ collected_after r count index payload rx
  unfolding collected_after pick
  too_many e p n = rw (eq-eqb index count p, le-ltb index 32 n) (λ t. (e t, rx))

  pub next_one : {x : Heard} {e : List ℕ} → x ≡ turned (RxPacket (index + 1)) r → index ≡ count → index < 32 → e ≡ placed payload rx (place_of index)
      → (x, e) ≡ collected_after r count index payload rx
  unfolding collected_after pick
  next_one f p n e = rw (eq-eqb index count p, lt-ltb index 32 n) (λ t. (f t, e t))
