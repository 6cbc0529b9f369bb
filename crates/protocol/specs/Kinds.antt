-- The numbers that stand in an LSF's type field for its mode, data type and encryption, from the M17 protocol specification. Assumes nothing.
use Rattle.std.specs.Prelude.{◌≡◌, ℕ, ◌≤◌, eqb, Result, MatchResult}
use Rattle.choice.specs.Pick.{pick}
use Rattle.protocol.specs.declared.lsf.Mode.{Mode}
use Rattle.protocol.specs.declared.lsf.Mode.TheVariants.{Packet, Stream}
use Rattle.protocol.specs.declared.lsf.DataType.{DataType}
use Rattle.protocol.specs.declared.lsf.DataType.TheVariants.{Reserved, Data, Voice, VoiceAndData}
use Rattle.protocol.specs.declared.lsf.EncryptionType.{EncryptionType}
use Rattle.protocol.specs.declared.lsf.EncryptionType.TheVariants.{None, Scrambler, Aes, Other}
use Rattle.protocol.specs.declared.lsf.UnknownKind.{UnknownKind}

abbrev pub mode_number : Mode → ℕ
mode_number Packet = 0
mode_number Stream = 1

unfoldable pub mode_of : ℕ → Mode
mode_of n = pick (eqb n 0) Packet Stream

abbrev pub data_type_number : DataType → ℕ
data_type_number Reserved = 0
data_type_number Data = 1
data_type_number Voice = 2
data_type_number VoiceAndData = 3

unfoldable pub data_type_of : ℕ → DataType
data_type_of n = pick (eqb n 0) Reserved (pick (eqb n 1) Data (pick (eqb n 2) Voice VoiceAndData))

abbrev pub encryption_number : EncryptionType → ℕ
encryption_number None = 0
encryption_number Scrambler = 1
encryption_number Aes = 2
encryption_number Other = 3

unfoldable pub encryption_of : ℕ → EncryptionType
encryption_of n = pick (eqb n 0) None (pick (eqb n 1) Scrambler (pick (eqb n 2) Aes Other))

-- the result is the kind with this number, or an error with a number that none of the so many kinds has
abbrev pub Numbered : {K : Type 0} → (K → ℕ) → ℕ → ℕ → Result K UnknownKind → Type 0
Numbered number kinds n r = MatchResult r (λ k. number k ≡ n) (λ e. (e.0 ≡ n) × (kinds ≤ n))
