-- The promises of specs/Promises.antt are kept. Assumes nothing.
use mathlib.Core.Path.{◌≡◌, refl}
use Rattle.choice.specs.Pick.{pick, and}
use Rattle.crc.specs.Crc.{shift_bit, shift_byte, crc_byte, crc_from, crc_of, sealed}
use Rattle.protocol.specs.declared.lsf.Mode.{Mode}
use Rattle.protocol.specs.declared.lsf.DataType.{DataType}
use Rattle.protocol.specs.declared.lsf.EncryptionType.{EncryptionType}
use Rattle.protocol.specs.declared.lsf.Mode.TheVariants.{Packet, Stream}
use Rattle.protocol.specs.declared.lsf.DataType.TheVariants.{Reserved, Data, Voice, VoiceAndData}
use Rattle.protocol.specs.declared.lsf.EncryptionType.TheVariants.{None, Scrambler, Aes, Other}
use Rattle.protocol.specs.Kinds.{mode_of, mode_number, data_type_of, data_type_number, encryption_of, encryption_number}
use Rattle.protocol.specs.Lsf.{with_bits_at}
use Rattle.protocol.specs.Basic.{digit40, call_number, bytes_of, basic_type, basic_lsf}
use Rattle.protocol.specs.Promises.{KindsAreRead, BasicBytes}

pub kinds_are_read : KindsAreRead
unfolding mode_of data_type_of encryption_of pick
kinds_are_read = (mode, data-type, encryption)
  where
    mode : (m : Mode) → mode_of (mode_number m) ≡ m
    mode Packet = refl
    mode Stream = refl

    data-type : (d : DataType) → data_type_of (data_type_number d) ≡ d
    data-type Reserved = refl
    data-type Data = refl
    data-type Voice = refl
    data-type VoiceAndData = refl

    encryption : (e : EncryptionType) → encryption_of (encryption_number e) ≡ e
    encryption None = refl
    encryption Scrambler = refl
    encryption Aes = refl
    encryption Other = refl

pub basic_bytes : BasicBytes
unfolding basic_lsf basic_type bytes_of call_number digit40 with_bits_at pick and sealed crc_of crc_from crc_byte shift_byte shift_bit
basic_bytes = refl
