-- `lich::LichCollection::valid_segments` meets its contract. Assumes nothing.
use Rattle.choice.specs.Pick.{tests}
use Rattle.lich.specs.Lich.{valid_segments}
use Rattle.lich.proofs.Masks.{ones_is}
use Rattle.lich.proofs.LichCollection.valid_segments.Goals as goal

pub returns-then-self-ge-MASKS : goal.returns-then-self-ge-MASKS
unfolding valid_segments
returns-then-self-ge-MASKS c = search tests

pub returns : goal.returns
unfolding valid_segments
returns c = rw (ones_is c.args.self.mask c.if-self-ge-MASKS.false) (search tests)
