-- `packets::PacketQueue::is_empty` meets its contract. Assumes nothing.
use Rattle.ring.specs.Ring.{empty_ring}
use Rattle.packets.specs.Queue.{is_empty}
use Rattle.packets.proofs.PacketQueue.is_empty.Goals as goal

pub returns : goal.returns
unfolding is_empty empty_ring
returns c = c.is_empty.ensures
