-- Proved: what the fields of the LSF, their setters and the LICH collection say at their edges, by computation. Assumes nothing.
use mathlib.Core.Path.{refl}
use Rattle.choice.specs.Pick.{pick}
use Rattle.crc.specs.Crc.{sealed}
use Rattle.lsf_layout.specs.Bits.{bits_at, with_bits_at}
use Rattle.lsf_layout.specs.Bytes.{type_field}
use Rattle.lsf_layout.specs.Lsf.{field_of}
use Rattle.lsf_bytes.specs.Bytes.{retyped}
use Rattle.protocol.specs.Kinds.{mode_of, data_type_of, encryption_of}
use Rattle.lsf_setters.specs.Lsf.{with_field}
use Rattle.lich.specs.Lich.{with_segment, segment_set}
use Rattle.edges.specs.Lsf.{Fields, Setters, Lich}

pub fields : Fields
unfolding field_of bits_at type_field mode_of data_type_of encryption_of pick
fields =
    record {
      mode_two_bits = λ s. refl;
      kinds_swapped = (refl, refl);
      data_type_one_bit = λ s. refl;
      data_type_one_bit_up = λ s. refl;
      encryption_read_three_bits = λ s. refl;
      channel_read_one_bit_down = λ s. (refl, refl);
    }

pub setters : Setters
unfolding with_field with_bits_at type_field retyped sealed
setters =
    record {
      channel_set_as_half = λ s. refl;
      data_type_clears_bit_3 = λ s. refl;
      encryption_clears_bit_5 = λ s. refl;
      mode_clears_bit_1 = λ s. refl;
    }

pub lich : Lich
unfolding segment_set with_segment with_bits_at pick
lich = record { mask_bit_one_off = λ f p. refl; segment_one_byte_off = λ r a b c d e. refl }
