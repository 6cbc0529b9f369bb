-- `streams::StreamQueue::is_sound` meets its contract. Assumes nothing.
use Rattle.ring.specs.Ring.{sound_ring}
use Rattle.streams.specs.Queue.{sound_queue}
use Rattle.streams.proofs.StreamQueue.is_sound.Goals as goal

pub returns : goal.returns
unfolding sound_queue sound_ring
returns c = c.is_sound.ensures
