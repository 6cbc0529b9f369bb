-- Two tables that each pass one computed test give the CRC's step by look_up, for one byte and for two. Assumes nothing.
use mathlib.Core.Path.{◌≡◌, sym, ap, ap₂, ◌∙◌}
use mathlib.Core.Bool.{Bool}
use mathlib.Core.List.{List}
use Prim.Native.Nat.{ℕ, ◌*◌, ◌/◌, ◌%◌, ◌<◌}
use native.Mathlib.Omega.{arith}
use lib.Bits.{bit_xor, xor_lt}
use lib.Dec.{T, eqb, eqb→eq}
use lib.ListN.{length, get_or}
use Rattle.choice.proofs.Table.{every, at}
use Rattle.crc.specs.Crc.{shift_byte, crc_byte}
use Rattle.crc.proofs.Linear.{shift_twice, by_look_up, by_look_ups}

-- entry k is what the steps make of k at the top of the register
unfoldable pub right : (ℕ → ℕ) → ℕ → ℕ → Bool
right steps k x = eqb x (steps (k * 256))

pub record RightTable (steps : ℕ → ℕ) (t : List ℕ) : Type 0 where
  pub full : length t ≡ 256
  pub passes : T (every (right steps) 0 t)

entry : {steps : ℕ → ℕ} {t : List ℕ} → RightTable steps t → (k : ℕ) → k < 256 → get_or t k 0 ≡ steps (k * 256)
unfolding right
entry {steps} {t} ok k h = eqb→eq (get_or t k 0) (steps (k * 256)) (at (right steps) t ok.passes k (rw ok.full h))

index_lt : (r b : ℕ) → r < 65536 → b < 256 → bit_xor (r / 256) b < 256
index_lt r b h k = xor_lt 8 (r / 256) b (omega arith) k

low_lt : (r b : ℕ) → b < 256 → bit_xor (r % 256) b < 256
low_lt r b k = xor_lt 8 (r % 256) b (omega arith) k

pub look_up : {t : List ℕ} → RightTable shift_byte t → (r b : ℕ) {x : ℕ} → x ≡ bit_xor (r / 256) b → r < 65536 → b < 256 → bit_xor (r * 256 % 65536) (get_or t x 0) ≡ crc_byte r b
look_up ok r b e h k = rw e (ap (bit_xor (r * 256 % 65536)) (entry ok (bit_xor (r / 256) b) (index_lt r b h k)) ∙ sym (by_look_up r b))

pub look_ups : {t u : List ℕ} → RightTable shift_byte t → RightTable shift_twice u → (r a b : ℕ) {x y : ℕ} → x ≡ bit_xor (r / 256) a → y ≡ bit_xor (r % 256) b
    → r < 65536 → a < 256 → b < 256 → bit_xor (get_or u x 0) (get_or t y 0) ≡ crc_byte (crc_byte r a) b
look_ups ok twice r a b ea eb h ka kb =
    rw (ea, eb) (ap₂ bit_xor (entry twice (bit_xor (r / 256) a) (index_lt r a h ka)) (entry ok (bit_xor (r % 256) b) (low_lt r b kb)) ∙ sym (by_look_ups r a b kb))
