-- The promises of specs/Promises.antt are kept. Assumes nothing.
use mathlib.Core.Path.{◌≡◌, refl, ap, ◌∙◌}
use mathlib.Core.List.{List}
use Prim.Native.Nat.{ℕ, ◌+◌, ◌*◌, ◌/◌, ◌%◌}
use native.Mathlib.Omega.{arith}
use lib.Bits.{xor_self}
use lib.ListN.{length, length-append}
use Rattle.crc.specs.Crc.{start, shift_bit, shift_byte, crc_byte, crc_from, crc_of, two_bytes, sealed}
use Rattle.crc.specs.Promises.{CrcOfNothing, CrcIsShort, SealedGivesZero}
use Rattle.crc.proofs.Linear.{top_low, shift_byte-small}
use Rattle.crc.proofs.Run.{crc_from-lt, crc_from-append}

pub crc_of_nothing : CrcOfNothing
unfolding crc_of crc_from
crc_of_nothing = refl

pub crc_is_short : CrcIsShort
unfolding crc_of
crc_is_short bytes = crc_from-lt start bytes (omega arith)

-- the register's own high byte takes its low byte to the top; its own low byte then takes it to 0
own_high : (c : ℕ) → crc_byte c (c / 256) ≡ c % 256 * 256
unfolding crc_byte
own_high c = rw (top_low c (c / 256), xor_self (c / 256)) (shift_byte-small (c % 256) (omega arith))

own_low : (l : ℕ) → crc_byte (l * 256) l ≡ 0
unfolding crc_byte shift_byte shift_bit
own_low l = rw (xor_self (l * 256)) refl

pub sealed_gives_zero : SealedGivesZero
unfolding sealed crc_of crc_from
sealed_gives_zero bytes =
    crc_from-append start bytes (two_bytes (crc_of bytes))
    ∙ ap (λ (x : ℕ). crc_byte x (crc_of bytes % 256)) (own_high (crc_of bytes))
    ∙ own_low (crc_of bytes % 256)

-- ---- for the crates above

pub sealed-length : (bytes : List ℕ) → length (sealed bytes) ≡ length bytes + 2
unfolding sealed
sealed-length bytes = length-append bytes (two_bytes (crc_of bytes))
