-- Runs of bits in a number, and those of an LSF's type field, from the M17 protocol specification with the type bits that document 01 names. Assumes nothing.
use Rattle.std.specs.Prelude.{ℕ, ◌+◌, ◌*◌, ◌/◌, ◌%◌, ◌^◌}

-- a run of bits in a number: `width` bits from bit `low` on, bit 0 the lowest
pub record Field : Type 0 where
  pub low : ℕ
  pub width : ℕ

-- type bit 0 is stream mode, 1-2 data type, 3-4 encryption, 7-10 channel access number
abbrev pub mode_bits : Field
mode_bits = record { low = 0; width = 1 }

abbrev pub data_type_bits : Field
data_type_bits = record { low = 1; width = 2 }

abbrev pub encryption_bits : Field
encryption_bits = record { low = 3; width = 2 }

abbrev pub channel_bits : Field
channel_bits = record { low = 7; width = 4 }

-- what stands in a run of bits of x
unfoldable pub bits_at : Field → ℕ → ℕ
bits_at k x = x / 2 ^ k.low % 2 ^ k.width

-- x with v there: the bits above it, v, the bits below it
unfoldable pub with_bits_at : Field → ℕ → ℕ → ℕ
with_bits_at k v x = x / 2 ^ (k.low + k.width) * 2 ^ (k.low + k.width) + v * 2 ^ k.low + x % 2 ^ k.low
