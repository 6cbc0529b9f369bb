-- A field of the link setup frame's type, from the M17 protocol specification with the type bits that document 01 names. Assumes nothing.
use Rattle.std.specs.Prelude.{ℕ, List}
use Rattle.lsf_layout.specs.Bits.{Field, bits_at}
use Rattle.lsf_layout.specs.Bytes.{type_field}

unfoldable pub field_of : Field → List ℕ → ℕ
field_of k f = bits_at k (type_field f)
