-- The meta field of the link setup frame (LSF), and the frame with another type, from the M17 protocol specification. Where the fields stand is in `lsf_layout`. Assumes nothing.
use Rattle.std.specs.Prelude.{ℕ, List, ◌++◌, take}
use Rattle.crc.specs.Crc.{two_bytes, sealed}
use Rattle.lsf_layout.specs.Bytes.{part}

unfoldable pub meta : List ℕ → List ℕ
meta f = part 14 14 f

-- the frame with another type, and its CRC renewed
unfoldable pub retyped : ℕ → List ℕ → List ℕ
retyped t f = sealed (take 12 f ++ two_bytes t ++ meta f)
