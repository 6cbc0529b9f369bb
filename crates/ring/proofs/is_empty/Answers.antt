-- `ring::is_empty` meets its contract. Assumes nothing.
use Rattle.ring.specs.Ring.{empty_ring}
use Rattle.ring.proofs.Cases.{empty_is}
use Rattle.ring.proofs.is_empty.Goals as goal

pub returns : goal.returns
unfolding empty_ring
returns c = empty_is c.args.full _
