-- `lsf_frame::mode` meets its contract. Assumes nothing.
use Rattle.std.proofs.Common.{◌≡◌, ◌∙◌, ℕ, ◌%◌, arith, rules}
use mathlib.Core.List.{List}
use lib.ListN.{get_or}
use Rattle.protocol.specs.Lsf.{bits_at, type_field, field_of, mode_bits}
use Rattle.protocol.proofs.Read.{mode_read}
use Rattle.lsf_frame.proofs.mode.Goals as goal

-- the low byte has the type's lowest bit
bit : (f : List ℕ) → get_or f 13 0 % 2 ≡ field_of mode_bits f
unfolding field_of bits_at type_field
bit f = omega arith

pub returns : goal.returns
returns c = mode_read _ _ (search rules ∙ bit c.args.lsf.0)
