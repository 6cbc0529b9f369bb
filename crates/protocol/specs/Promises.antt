-- What is promised of the kinds of an LSF and of the LSF of port 0, from document 01 under "LSF, LICH, frames" and the M17 protocol specification. It is proved in proofs/Kept.antt. Assumes nothing.
use Rattle.std.specs.Prelude.{◌≡◌, [], ◌∷◌}
use Rattle.protocol.specs.declared.lsf.Mode.{Mode}
use Rattle.protocol.specs.declared.lsf.DataType.{DataType}
use Rattle.protocol.specs.declared.lsf.EncryptionType.{EncryptionType}
use Rattle.protocol.specs.Basic.{basic_lsf}
use Rattle.protocol.specs.Kinds.{mode_of, mode_number, data_type_of, data_type_number, encryption_of, encryption_number}

-- the kinds and their numbers belong to each other
abbrev pub KindsAreRead : Type 0
KindsAreRead =
    ((m : Mode) → mode_of (mode_number m) ≡ m) × ((d : DataType) → data_type_of (data_type_number d) ≡ d) × ((e : EncryptionType) → encryption_of (encryption_number e) ≡ e)

-- the LSF of port 0, byte for byte, its CRC last
abbrev pub BasicBytes : Type 0
BasicBytes = basic_lsf ≡ 0xFF ∷ 0xFF ∷ 0xFF ∷ 0xFF ∷ 0xFF ∷ 0xFF ∷ 0x78 ∷ 0xE9 ∷ 0x59 ∷ 0x14 ∷ 0x2C ∷ 0xED ∷ 0x00 ∷ 0x02 ∷ 0x00 ∷ 0x00 ∷ 0x00 ∷ 0x00 ∷ 0x00 ∷ 0x00 ∷ 0x00 ∷ 0x00 ∷ 0x00 ∷ 0x00 ∷ 0x00 ∷ 0x00 ∷ 0x00 ∷ 0x00 ∷ 0x0C ∷ 0x5E ∷ []
