-- `lich::LichCollection::set_segment` meets its contract. Assumes nothing.
use Rattle.std.proofs.Common.{ℕ, ◌+◌, ◌-◌, ◌*◌, ◌≡◌, ap, ◌∙◌, arith, rules}
use borrow.Rule.Slice.PartMut.{put_mid}
use lib.ListN.{length}
use Rattle.choice.specs.Pick.{tests}
use Rattle.room.specs.Room.{placed}
use Rattle.room.proofs.Parts.{lent_placed}
use Rattle.lich.specs.Lich.{with_segment, segment_set}
use Rattle.lich.proofs.Masks.{or_is}
use Rattle.lich.proofs.LichCollection.set_segment.Goals as goal

pub returns-then-self-ge-MASKS : goal.returns-then-self-ge-MASKS
unfolding segment_set
returns-then-self-ge-MASKS c = search tests

pub returns-then-counter-gt5 : goal.returns-then-counter-gt5
unfolding segment_set
returns-then-counter-gt5 c = search tests

pub returns : goal.returns
unfolding segment_set with_segment
returns c =
    let a = c.args in let d = a.self.segments in let at : ℕ = 5 * a.counter in
    let five : length a.part ≡ 5 = search rules in
    let same : length a.part ≡ at + 5 - at = omega (arith, five) in
    let e : put_mid at (at + 5 - at) d c.copy_from_slice.new.self ≡ placed a.part d at =
    ap (put_mid at (at + 5 - at) d) c.copy_from_slice.ensures.after ∙ lent_placed at (at + 5 - at) d a.part same in
    rw (e, or_is a.self.mask a.counter (omega arith) (omega arith)) (search tests)
