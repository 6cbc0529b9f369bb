-- `lsf_fields::data_type` meets its contract. Assumes nothing.
use Rattle.std.proofs.Common.{ap, ◌∙◌, ◌/◌, ◌%◌, rules}
use Rattle.protocol.specs.Kinds.{data_type_of}
use Rattle.protocol.proofs.Read.{data_type_read}
use Rattle.lsf_layout.specs.Bits.{data_type_bits, bits_at}
use Rattle.lsf_layout.specs.Lsf.{field_of}
use Rattle.lsf_fields.proofs.data_type.Goals as goal

pub returns : goal.returns
unfolding field_of bits_at
returns c = data_type_read _ (c.lsf_type.result / 2 % 4) (search rules) ∙ ap (λ t. data_type_of (bits_at data_type_bits t)) c.lsf_type.ensures
