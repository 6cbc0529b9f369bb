-- `packet_basic::has_payload` meets its contract. Assumes nothing.
use Rattle.std.proofs.Common.{ℕ, List, ap, ◌∙◌}
use Rattle.std.specs.Prelude.{Result, is_ok}
use Rattle.kiss_layout.specs.declared.KissError.{KissError}
use Rattle.packets.specs.Frames.{zeros}
use Rattle.packet_basic.proofs.has_payload.Goals as goal

pub returns : goal.returns
unfolding zeros
returns c = c.is_ok.ensures.value ∙ ap (λ (p : Result ℕ KissError × List ℕ). is_ok p.0) c.decode_payload.ensures
