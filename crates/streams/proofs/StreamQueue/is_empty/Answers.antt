-- `streams::StreamQueue::is_empty` meets its contract. Assumes nothing.
use Rattle.ring.specs.Ring.{empty_ring}
use Rattle.streams.specs.Queue.{empty_queue}
use Rattle.streams.proofs.StreamQueue.is_empty.Goals as goal

pub returns : goal.returns
unfolding empty_queue empty_ring
returns c = c.is_empty.ensures
