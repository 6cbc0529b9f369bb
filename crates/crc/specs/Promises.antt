-- What is promised of the CRC, from document 01 under "Modules, leaves first". Each is proved in proofs/Kept.antt. Assumes nothing.
use Rattle.std.specs.Prelude.{ℕ, ◌<◌, ◌≡◌, List, []}
use Rattle.crc.specs.Crc.{crc_of, sealed}

-- of no bytes it is 0xFFFF
abbrev pub CrcOfNothing : Type 0
CrcOfNothing = crc_of [] ≡ 0xFFFF

-- it is a number of 16 bits
abbrev pub CrcIsShort : Type 0
CrcIsShort = (bytes : List ℕ) → crc_of bytes < 65536

-- bytes followed by their CRC, high byte first, give 0
abbrev pub SealedGivesZero : Type 0
SealedGivesZero = (bytes : List ℕ) → crc_of (sealed bytes) ≡ 0
