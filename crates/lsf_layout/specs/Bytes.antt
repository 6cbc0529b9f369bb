-- The layout of the link setup frame (LSF), from the M17 protocol specification.
-- 30 bytes: destination 0-5, source 6-11, type 12-13 (high byte first), meta 14-27, CRC 28-29. Assumes nothing.
use Rattle.std.specs.Prelude.{ℕ, ◌+◌, ◌*◌, List, take, drop, get_or}

-- n bytes from place `from` on
abbrev pub part : ℕ → ℕ → List ℕ → List ℕ
part from n f = take n (drop from f)

unfoldable pub type_field : List ℕ → ℕ
type_field f = get_or f 12 0 * 256 + get_or f 13 0
