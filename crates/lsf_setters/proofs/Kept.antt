-- The promises of specs/Promises.antt are kept. Assumes nothing.
use mathlib.Core.Path.{sym, ap, ◌∙◌}
use Rattle.crc.proofs.Kept.{sealed_gives_zero}
use Rattle.lsf_layout.specs.Bits.{bits_at, with_bits_at}
use Rattle.lsf_layout.specs.Bytes.{type_field}
use Rattle.lsf_layout.specs.Lsf.{field_of}
use Rattle.lsf_layout.proofs.Fields.{bits_there, bits_below, bits_above}
use Rattle.lsf_bytes.specs.Bytes.{retyped}
use Rattle.lsf_setters.specs.Lsf.{with_field}
use Rattle.lsf_setters.specs.Promises.{SetIsRead, SetKeepsTheRest, SetIsSealed}
use Rattle.lsf_setters.proofs.Frames.{type_read, addresses_kept, meta-kept, retyped-length}

-- ---- a field of the LSF's type is set

pub set_is_read : SetIsRead
unfolding field_of with_field
set_is_read k v f n h = ap (bits_at k) (type_read (with_bits_at k v (type_field f)) f n) ∙ bits_there k v (type_field f) h

pub set_keeps_the_rest : SetKeepsTheRest
unfolding with_field
set_keeps_the_rest k v f n h =
    let t = with_bits_at k v (type_field f) in record {
      addresses = addresses_kept t f n;
      rest = meta-kept t f n;
      bits_below = rw (type_read t f n) (bits_below k v (type_field f));
      bits_above = rw (type_read t f n) (bits_above k v (type_field f) h);
      same_length = retyped-length t f n ∙ sym n;
    }

pub set_is_sealed : SetIsSealed
unfolding with_field retyped
set_is_sealed k v f = sealed_gives_zero _
