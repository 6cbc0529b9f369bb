-- `packet_basic::decode_into` meets its contract: the lent part, once it is back, stands in the cleared room. Assumes nothing.
use Rattle.packet_basic.proofs.Rooms.{decoded-at}
use Rattle.packet_basic.proofs.decode_into.Goals as goal

pub returns : goal.returns
returns c = let a = c.args in decoded-at a.store.now a.at c.requires (c.fill.ensures.after (λ y e. e)) a.frame.now c.decode_payload.ensures c.unwrap_or.ensures
