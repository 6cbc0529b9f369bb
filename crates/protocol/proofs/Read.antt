-- What the conversions promise by numbers says which kind a number reads as. Assumes nothing.
use mathlib.Core.Path.{◌≡◌, sym, ap, ◌∙◌}
use Prim.Native.Nat.{ℕ}
use Rattle.protocol.specs.declared.lsf.Mode.{Mode}
use Rattle.protocol.specs.declared.lsf.DataType.{DataType}
use Rattle.protocol.specs.declared.lsf.EncryptionType.{EncryptionType}
use Rattle.protocol.specs.Kinds.{mode_of, mode_number, data_type_of, data_type_number, encryption_of, encryption_number}
use Rattle.protocol.proofs.Kept.{kinds_are_read}

pub mode_read : (m : Mode) (n : ℕ) → mode_number m ≡ n → m ≡ mode_of n
mode_read m n h = sym (kinds_are_read.0 m) ∙ ap mode_of h

pub data_type_read : (d : DataType) (n : ℕ) → data_type_number d ≡ n → d ≡ data_type_of n
data_type_read d n h = sym (kinds_are_read.1 d) ∙ ap data_type_of h

pub encryption_read : (e : EncryptionType) (n : ℕ) → encryption_number e ≡ n → e ≡ encryption_of n
encryption_read e n h = sym (kinds_are_read.2 e) ∙ ap encryption_of h
