-- `host_frame::obey` meets its contract. Assumes nothing.
use Rattle.std.proofs.Common.{◌∙◌}
use Rattle.std.specs.Prelude.{Err, Ok}
use Rattle.host_frame.proofs.Cases.{port_as}
use Rattle.host_frame.proofs.obey.Goals as goal

pub returns-in_default : goal.returns-in_default
returns-in_default c =
    let a = c.args in
    port_as a.host a.frame.now a.packets.now a.streams.now (Err _) c.port.ensures c.in_default.is

pub returns : goal.returns
returns c =
    let a = c.args in
    c.obey_on.ensures ∙ port_as a.host a.frame.now a.packets.now a.streams.now (Ok _) c.port.ensures c.in-Ok.is
