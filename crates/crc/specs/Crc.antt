-- The CRC of the M17 protocol specification: 16 bits, polynomial 0x5935, start 0xFFFF, high bit first, no final change. Assumes nothing.
use Rattle.std.specs.Prelude.{ℕ, ◌*◌, ◌/◌, ◌%◌, List, [], ◌∷◌, ◌++◌}
use Rattle.std.specs.Int.Bits.{bit_xor}

abbrev pub polynomial : ℕ
polynomial = 0x5935

abbrev pub start : ℕ
start = 0xFFFF

-- one bit of the division: the register goes up by one place within 16 bits, and takes in the polynomial where its top bit was set
unfoldable pub shift_bit : ℕ → ℕ
shift_bit r = bit_xor (r * 2 % 65536) (r / 32768 % 2 * polynomial)

unfoldable pub shift_byte : ℕ → ℕ
shift_byte r = shift_bit (shift_bit (shift_bit (shift_bit (shift_bit (shift_bit (shift_bit (shift_bit r)))))))

-- a byte is added at the top of the register, and its eight bits are divided away
unfoldable pub crc_byte : ℕ → ℕ → ℕ
crc_byte r b = shift_byte (bit_xor r (b * 256))

-- the register r after the bytes, first to last
unfoldable pub crc_from : ℕ → List ℕ → ℕ
crc_from r [] = r
crc_from r (b ∷ bs) = crc_from (crc_byte r b) bs

unfoldable pub crc_of : List ℕ → ℕ
crc_of bs = crc_from start bs

-- a number of 16 bits as its two bytes, high byte first
abbrev pub two_bytes : ℕ → List ℕ
two_bytes x = x / 256 ∷ x % 256 ∷ []

-- bytes followed by their CRC
unfoldable pub sealed : List ℕ → List ℕ
sealed bs = bs ++ two_bytes (crc_of bs)
