-- The link setup frame (LSF) with a field of its type set, from the M17 protocol specification. Where the fields stand is in `lsf_layout`. Assumes nothing.
use Rattle.std.specs.Prelude.{ℕ, List}
use Rattle.lsf_layout.specs.Bits.{Field, with_bits_at}
use Rattle.lsf_layout.specs.Bytes.{type_field}
use Rattle.lsf_bytes.specs.Bytes.{retyped}

-- the frame with v in a field of its type, and its CRC renewed
unfoldable pub with_field : Field → ℕ → List ℕ → List ℕ
with_field k v f = retyped (with_bits_at k v (type_field f)) f
