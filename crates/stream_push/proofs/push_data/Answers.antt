-- `stream_push::push_data` meets its contract. Assumes nothing.
use Rattle.std.proofs.Common.{ℕ, ◌+◌, ◌*◌, ◌-◌, ◌≡◌, ap, ◌∙◌, arith, rules}
use mathlib.Core.List.{List}
use lib.ListN.{length}
use borrow.Rule.Slice.PartMut.{put_mid}
use Rattle.room.specs.Room.{placed}
use Rattle.room.proofs.Parts.{lent_placed}
use Rattle.std.specs.Prelude.{Ok}
use Rattle.kiss_layout.specs.Stream.{stream_of}
use Rattle.streams.specs.declared.StreamPush.TheVariants.{Queued}
use Rattle.streams.specs.Layout.{FRAME, bytes_of}
use Rattle.streams.specs.Queue.{queued}
use Rattle.streams.proofs.Cases.{next_below, data_full, data_roomy}
use Rattle.stream_push.proofs.push_data.Goals as goal

pub returns-then-queue : goal.returns-then-queue
returns-then-queue c = data_full c.args.queue c.args.payload c.args.store.now c.if-queue.true

pub returns : goal.returns
unfolding queued
returns c =
    let q = c.args.queue in let d = c.args.store.now in let at : ℕ = FRAME * q.next in
    let len : at + FRAME - at ≡ FRAME = omega arith in
    let twenty_five : length c.frame_bytes.result ≡ FRAME = search rules in
    let e : put_mid at (at + FRAME - at) d c.copy_from_slice.new.self ≡ placed (bytes_of (stream_of c.args.payload)) d at =
    (λ t. put_mid at (len t) d (c.copy_from_slice.ensures.after t))
    ∙ lent_placed at FRAME d c.frame_bytes.result twenty_five
    ∙ ap (λ (l : List ℕ). placed l d at) c.frame_bytes.ensures in
    (λ t. (record { answer = Ok Queued; queue = queued q }, e t)) ∙ data_roomy q c.args.payload d c.if-queue.false

pub overflow_mul-at : goal.overflow_mul-at
overflow_mul-at c = omega (arith, next_below c.args.queue c.requires.0, c.requires.1)

pub overflow_add-at : goal.overflow_add-at
overflow_add-at c = omega (arith, next_below c.args.queue c.requires.0, c.requires.1)

pub slice_bounds-copy_from_slice-end : goal.slice_bounds-copy_from_slice-end
slice_bounds-copy_from_slice-end c = omega (arith, next_below c.args.queue c.requires.0, c.requires.1)
