-- `stream_push::push_lsf` meets its contract. Assumes nothing.
use Rattle.std.proofs.Common.{ℕ, ◌≡◌, ap, ◌∙◌, arith, rules}
use mathlib.Core.Bool.{true}
use mathlib.Core.List.{List}
use lib.ListN.{length}
use borrow.Rule.Slice.PartMut.{put_mid}
use Rattle.room.specs.Room.{placed}
use Rattle.room.proofs.Parts.{lent_placed}
use Rattle.std.specs.Prelude.{Ok}
use Rattle.streams.specs.declared.StreamPush.TheVariants.{LsfPending}
use Rattle.streams.specs.Queue.{LSF, with_pending}
use Rattle.streams.proofs.Cases.{lsf_right}
use Rattle.stream_push.proofs.Refused.{lsf_wrong}
use Rattle.stream_push.proofs.push_lsf.Goals as goal

pub returns-then-check_crc-ne0 : goal.returns-then-check_crc-ne0
returns-then-check_crc-ne0 c = lsf_wrong c.args.queue c.args.payload c.args.store.now c.check_crc.ensures c.if-check_crc-ne0.true

pub returns : goal.returns
returns c =
    let p = c.args.payload in let d = c.args.store.now in
    let thirty : length p ≡ 30 = search rules in
    let e : put_mid LSF 30 d c.copy_from_slice.new.self ≡ placed p d LSF = ap (λ (l : List ℕ). put_mid LSF 30 d l) c.copy_from_slice.ensures.after ∙ lent_placed LSF 30 d p thirty in
    (λ t. (record { answer = Ok LsfPending; queue = with_pending true c.args.queue }, e t)) ∙ lsf_right c.args.queue p d c.check_crc.ensures c.if-check_crc-ne0.false

pub slice_bounds-copy_from_slice-end : goal.slice_bounds-copy_from_slice-end
slice_bounds-copy_from_slice-end c = omega (arith, c.requires)
