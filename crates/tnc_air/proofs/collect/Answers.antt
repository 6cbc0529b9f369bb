-- `tnc_air::collect` meets its contract. Assumes nothing.
use Rattle.std.proofs.Common.{◌∙◌}
use Rattle.tnc_air.proofs.Orders.{in_right_store}
use Rattle.tnc_air.proofs.Packets.{collected_as}
use Rattle.tnc_air.proofs.collect.Goals as goal

pub returns-in-Packet : goal.returns-in-Packet
returns-in-Packet c =
    let a = c.args in
    c.collect_after.ensures ∙ in_right_store a.radio c.in-Packet.count a.index a.payload a.rx.now c.requires ∙ collected_as a.radio a.index a.payload a.rx.now c.reception.ensures c.in-Packet.is
