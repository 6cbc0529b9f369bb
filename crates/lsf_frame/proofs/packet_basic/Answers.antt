-- `lsf_frame::packet_basic` meets its contract: the constant is what `protocol` promises of the definition. Assumes nothing.
use Rattle.std.proofs.Common.{sym}
use Rattle.protocol.proofs.Kept.{basic_bytes}
use Rattle.lsf_frame.proofs.packet_basic.Goals as goal

pub returns : goal.returns
returns c = sym basic_bytes
