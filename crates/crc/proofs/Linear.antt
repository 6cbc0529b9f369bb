-- The CRC's step is linear over `bit_xor`, so a byte's eight steps are one look-up, and two bytes' sixteen are two. Assumes nothing.
use mathlib.Core.Path.{◌≡◌, refl, sym, ap, ap₂, ◌∙◌}
use Prim.Native.Nat.{ℕ, zero, suc, ◌+◌, ◌*◌, ◌/◌, ◌%◌, ◌<◌}
use native.Mathlib.Nat.{add-zero, div-add-mod', zero-lt-suc}
use native.Mathlib.Omega.{arith}
use lib.Arith.{bin_ind}
use lib.Bits.{bit_xor, differ, xor_step, xor_comm, xor_zero_r, xor_lt, xor_block, xor_shifted, xor_shr, xor_mod}
use Rattle.crc.specs.Crc.{polynomial, shift_bit, shift_byte, crc_byte}

-- ---- bit_xor is associative

data Bit : ℕ → Type 0 where
  low : Bit 0
  high : Bit 1

bit : (x : ℕ) → x < 2 → Bit x
bit zero h = low
bit (suc zero) h = high
bit (suc (suc x)) h = absurd (omega arith)

odd : (x : ℕ) → Bit (x % 2)
odd x = bit (x % 2) (omega arith)

bit3 : {x y z : ℕ} → Bit x → Bit y → Bit z → differ (bit_xor x y) z ≡ differ x (bit_xor y z)
bit3 low low low = refl
bit3 low low high = refl
bit3 low high low = refl
bit3 low high high = refl
bit3 high low low = refl
bit3 high low high = refl
bit3 high high low = refl
bit3 high high high = refl

xor_assoc : (a b c : ℕ) → bit_xor (bit_xor a b) c ≡ bit_xor a (bit_xor b c)
xor_assoc =
    bin_ind (λ (n : ℕ). (b c : ℕ) → bit_xor (bit_xor n b) c ≡ bit_xor n (bit_xor b c)) (λ b c. refl)
    (λ n ih b c.
    xor_step (bit_xor n b) c
    ∙ ap₂ (λ (x y : ℕ). x * 2 + y)
    (ap (λ (x : ℕ). bit_xor x (c / 2)) (xor_shr n b 1) ∙ ih (b / 2) (c / 2) ∙ ap (bit_xor (n / 2)) (sym (xor_shr b c 1)))
    (ap (λ (x : ℕ). differ x (c % 2)) (xor_mod n b 1) ∙ bit3 (odd n) (odd b) (odd c) ∙ ap (differ (n % 2)) (sym (xor_mod b c 1)))
    ∙ sym (xor_step n (bit_xor b c)))

swap4 : (a b c d : ℕ) → bit_xor (bit_xor a b) (bit_xor c d) ≡ bit_xor (bit_xor a c) (bit_xor b d)
swap4 a b c d =
    xor_assoc a b (bit_xor c d) ∙ ap (bit_xor a) (sym (xor_assoc b c d) ∙ ap (λ (x : ℕ). bit_xor x d) (xor_comm b c) ∙ xor_assoc c b d) ∙ sym (xor_assoc a c (bit_xor b d))

-- ---- one bit

xor_double : (x y : ℕ) → bit_xor x y * 2 ≡ bit_xor (x * 2) (y * 2)
xor_double x y =
    sym (ap₂ bit_xor (sym (add-zero (x * 2))) (sym (add-zero (y * 2))) ∙ xor_block 1 x y 0 0 (zero-lt-suc 1) (zero-lt-suc 1) ∙ add-zero (bit_xor x y * 2))

top2 : {p q : ℕ} → Bit p → Bit q → bit_xor p q * polynomial ≡ bit_xor (p * polynomial) (q * polynomial)
top2 low low = refl
top2 low high = refl
top2 high low = refl
top2 high high = refl

shift_bit-xor : (x y : ℕ) → shift_bit (bit_xor x y) ≡ bit_xor (shift_bit x) (shift_bit y)
unfolding shift_bit
shift_bit-xor x y =
    ap₂ bit_xor (ap (λ (z : ℕ). z % 65536) (xor_double x y) ∙ xor_mod (x * 2) (y * 2) 16)
    (ap (λ (z : ℕ). z % 2 * polynomial) (xor_shr x y 15) ∙ ap (λ (z : ℕ). z * polynomial) (xor_mod (x / 32768) (y / 32768) 1) ∙ top2 (odd (x / 32768)) (odd (y / 32768)))
    ∙ swap4 (x * 2 % 65536) (y * 2 % 65536) (x / 32768 % 2 * polynomial) (y / 32768 % 2 * polynomial)

shift_bit-lt : (x : ℕ) → shift_bit x < 65536
unfolding shift_bit
shift_bit-lt x = xor_lt 16 (x * 2 % 65536) (x / 32768 % 2 * polynomial) (omega arith) (omega arith)

-- a register whose top bit is not set is only moved up
shift_bit-small : (x : ℕ) → x < 32768 → shift_bit x ≡ x * 2
unfolding shift_bit
shift_bit-small x h =
    let p : x * 2 % 65536 ≡ x * 2 = omega arith in
    let q : x / 32768 % 2 * polynomial ≡ 0 = omega arith in
    rw (p, q) (xor_zero_r (x * 2))

-- ---- a byte

shift_byte-xor : (x y : ℕ) → shift_byte (bit_xor x y) ≡ bit_xor (shift_byte x) (shift_byte y)
unfolding shift_byte
shift_byte-xor x y = simp shift_bit-xor

pub shift_byte-small : (x : ℕ) → x < 256 → shift_byte x ≡ x * 256
unfolding shift_byte
shift_byte-small x h =
    rw (
      shift_bit-small x (omega arith),
      shift_bit-small (x * 2) (omega arith),
      shift_bit-small (x * 2 * 2) (omega arith),
      shift_bit-small (x * 2 * 2 * 2) (omega arith),
      shift_bit-small (x * 2 * 2 * 2 * 2) (omega arith),
      shift_bit-small (x * 2 * 2 * 2 * 2 * 2) (omega arith),
      shift_bit-small (x * 2 * 2 * 2 * 2 * 2 * 2) (omega arith),
      shift_bit-small (x * 2 * 2 * 2 * 2 * 2 * 2 * 2) (omega arith),
    )
    (omega arith)

pub crc_byte-lt : (r b : ℕ) → crc_byte r b < 65536
unfolding crc_byte shift_byte
crc_byte-lt r b = shift_bit-lt _

-- the register with b added at its top: the look-up's index above the register's low byte
pub top_low : (r b : ℕ) → bit_xor r (b * 256) ≡ bit_xor (bit_xor (r / 256) b * 256) (r % 256)
top_low r b =
    ap₂ bit_xor (sym (div-add-mod' r 256)) (sym (add-zero (b * 256)))
    ∙ xor_block 8 (r / 256) b (r % 256) 0 (omega arith) (omega arith)
    ∙ ap (λ (x : ℕ). bit_xor (r / 256) b * 256 + x) (xor_zero_r (r % 256))
    ∙ sym (xor_shifted (bit_xor (r / 256) b) 8 (r % 256) (omega arith))

-- a byte's step, as the code takes it
pub by_look_up : (r b : ℕ) → crc_byte r b ≡ bit_xor (r * 256 % 65536) (shift_byte (bit_xor (r / 256) b * 256))
unfolding crc_byte
by_look_up r b =
    let e : r % 256 * 256 ≡ r * 256 % 65536 = omega arith in
    rw (top_low r b, shift_byte-xor, shift_byte-small (r % 256) (omega arith), e) (xor_comm (shift_byte (bit_xor (r / 256) b * 256)) (r * 256 % 65536))

-- ---- two bytes

abbrev pub shift_twice : ℕ → ℕ
shift_twice r = shift_byte (shift_byte r)

-- the second byte meets the register's low byte at the top, so its steps are apart from those of the first
pub by_look_ups : (r a b : ℕ) → b < 256
    → crc_byte (crc_byte r a) b ≡ bit_xor (shift_twice (bit_xor (r / 256) a * 256)) (shift_byte (bit_xor (r % 256) b * 256))
unfolding crc_byte
by_look_ups r a b h =
    let top = bit_xor (r / 256) a * 256 in let low = bit_xor (r % 256) b in
    let k : low < 256 = xor_lt 8 (r % 256) b (omega arith) h in
    rw (
      top_low r a,
      ← shift_byte-small b h,
      ← shift_byte-xor (bit_xor top (r % 256)) b,
      xor_assoc top (r % 256) b,
      shift_byte-xor top low,
      shift_byte-xor (shift_byte top) (shift_byte low),
      shift_byte-small low k,
    )
