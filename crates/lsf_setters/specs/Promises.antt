-- What is promised of the LSF's layout over several calls, from document 01 under "LSF, LICH, frames". Each is proved in proofs/Kept.antt. Assumes nothing.
use Rattle.std.specs.Prelude.{ℕ, ◌+◌, ◌/◌, ◌%◌, ◌^◌, ◌<◌, ◌≡◌, List, length, take}
use Rattle.crc.specs.Crc.{crc_of}
use Rattle.lsf_layout.specs.Bits.{Field}
use Rattle.lsf_layout.specs.Bytes.{type_field}
use Rattle.lsf_layout.specs.Lsf.{field_of}
use Rattle.lsf_bytes.specs.Bytes.{meta}
use Rattle.lsf_setters.specs.Lsf.{with_field}

-- ---- a field of the LSF's type is set

-- what was set is read
abbrev pub SetIsRead : Type 0
SetIsRead = (k : Field) (v : ℕ) (f : List ℕ) → length f ≡ 30 → v < 2 ^ k.width → field_of k (with_field k v f) ≡ v

-- nothing else is changed but the CRC: not the bytes before the type nor those after it, not the type's bits below the field nor those above it
pub record SameButFor (k : Field) (f g : List ℕ) : Type 0 where
  pub addresses : take 12 g ≡ take 12 f
  pub rest : meta g ≡ meta f
  pub bits_below : type_field g % 2 ^ k.low ≡ type_field f % 2 ^ k.low
  pub bits_above : type_field g / 2 ^ (k.low + k.width) ≡ type_field f / 2 ^ (k.low + k.width)
  pub same_length : length g ≡ length f

abbrev pub SetKeepsTheRest : Type 0
SetKeepsTheRest = (k : Field) (v : ℕ) (f : List ℕ) → length f ≡ 30 → v < 2 ^ k.width → SameButFor k f (with_field k v f)

-- a set frame has CRC 0
abbrev pub SetIsSealed : Type 0
SetIsSealed = (k : Field) (v : ℕ) (f : List ℕ) → crc_of (with_field k v f) ≡ 0
