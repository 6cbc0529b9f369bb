-- `ring::is_sound` meets its contract. Assumes nothing.
use Rattle.ring.specs.Ring.{sound_ring}
use Rattle.ring.proofs.Cases.{sound_is}
use Rattle.ring.proofs.is_sound.Goals as goal

pub returns : goal.returns
unfolding sound_ring
returns g c = sound_is _ _ c.args.full _
