-- `lsf_fields::encryption_type` meets its contract. Assumes nothing.
use Rattle.std.proofs.Common.{ap, ◌∙◌, ◌/◌, ◌%◌, rules}
use Rattle.protocol.specs.Kinds.{encryption_of}
use Rattle.protocol.proofs.Read.{encryption_read}
use Rattle.lsf_layout.specs.Bits.{encryption_bits, bits_at}
use Rattle.lsf_layout.specs.Lsf.{field_of}
use Rattle.lsf_fields.proofs.encryption_type.Goals as goal

pub returns : goal.returns
unfolding field_of bits_at
returns c = encryption_read _ (c.lsf_type.result / 8 % 4) (search rules) ∙ ap (λ t. encryption_of (bits_at encryption_bits t)) c.lsf_type.ensures
