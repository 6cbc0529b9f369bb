-- `packet_read::lsf_read` meets its contract. Assumes nothing.
use Rattle.std.proofs.Common.{ℕ, ◌+◌, ◌-◌, ◌*◌, ◌≡◌, ap, arith}
use Rattle.protocol.specs.Lsf.{part}
use Rattle.packets.specs.Queue.{ROOM, with_place, lsf_read}
use Rattle.packets.proofs.Bounds.{at_here}
use Rattle.packet_read.proofs.lsf_read.Goals as goal

pub returns : goal.returns
unfolding lsf_read with_place
returns c =
    let at : ℕ = ROOM * c.args.queue.curr in
    let n : at + 30 - at ≡ 30 = omega arith in
    rw (c.copy_from_slice.ensures.after, ap (λ (k : ℕ). part at k c.args.store.now) n)

pub overflow_mul-at : goal.overflow_mul-at
overflow_mul-at c = omega (arith, at_here c.args.queue c.requires)

pub overflow_add-at : goal.overflow_add-at
overflow_add-at c = omega (arith, at_here c.args.queue c.requires)

pub slice_bounds-copy_from_slice-end-2 : goal.slice_bounds-copy_from_slice-end-2
slice_bounds-copy_from_slice-end-2 c = omega (arith, at_here c.args.queue c.requires)
