-- `stream_read::read_frame` meets its contract. Assumes nothing.
use Rattle.std.proofs.Common.{ℕ, ◌+◌, ◌*◌, ◌-◌, ◌≡◌, ap, arith}
use lib.ListN.{take, drop}
use Rattle.streams.specs.Layout.{FRAME}
use Rattle.streams.specs.Queue.{unqueued, frame_read}
use Rattle.streams.proofs.Cases.{curr_below}
use Rattle.stream_read.proofs.read_frame.Goals as goal

pub returns : goal.returns
unfolding frame_read unqueued
returns c =
    let at : ℕ = FRAME * c.args.queue.curr in
    let len : at + FRAME - at ≡ FRAME = omega arith in
    rw (c.frame_of.ensures, c.copy_from_slice.ensures.after, ap (λ (n : ℕ). take n (drop at c.args.store.now)) len)

pub overflow_mul-at : goal.overflow_mul-at
overflow_mul-at c = omega (arith, curr_below c.args.queue c.requires)

pub overflow_add-at : goal.overflow_add-at
overflow_add-at c = omega (arith, curr_below c.args.queue c.requires)

pub slice_bounds-copy_from_slice-end-2 : goal.slice_bounds-copy_from_slice-end-2
slice_bounds-copy_from_slice-end-2 c = omega (arith, curr_below c.args.queue c.requires)
