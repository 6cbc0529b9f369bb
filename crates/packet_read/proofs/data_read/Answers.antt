-- `packet_read::data_read` meets its contract. Assumes nothing.
use Rattle.std.proofs.Common.{ℕ, ◌+◌, ◌-◌, ◌*◌, ◌/◌, min, ◌≡◌, ap, ◌∙◌, arith, rules}
use Rattle.std.specs.Prelude.{Ok, Some}
use Rattle.protocol.specs.Lsf.{part}
use Rattle.protocol.specs.declared.ModulatorFrame.TheVariants.{Packet}
use Rattle.packets.specs.Frames.{chunk}
use Rattle.packets.specs.Queue.{ROOM, here, with_place, data_read}
use Rattle.packets.proofs.Bounds.{at_here}
use Rattle.packet_read.proofs.data_read.Goals as goal

pub returns : goal.returns
unfolding data_read with_place
returns c =
    let q = c.args.queue in let d = c.args.store.now in
    let from : ℕ = ROOM * q.curr + 30 + (here q).sent in
    let n : from + ((here q).len - (here q).sent) - from ≡ (here q).len - (here q).sent = omega arith in
    let frame = c.first_frame-frame.ensures ∙ ap (λ (k : ℕ). chunk ((here q).sent / 25) (part from k d)) n in
    let count : c.min.result ≡ min 25 ((here q).len - (here q).sent) = search rules in
    λ t. record {
      answer = Ok (Some (Packet (frame t)));
      queue = with_place q (record { due = (here q).due; len = (here q).len; sent = (here q).sent + count t });
    }

pub offset_bounds-queue-queue : goal.offset_bounds-queue-queue
offset_bounds-queue-queue c = omega (arith, at_here c.args.queue c.requires)

pub bounds-queue-queue : goal.bounds-queue-queue
bounds-queue-queue c = omega (arith, at_here c.args.queue c.requires)

pub overflow_sub-rest : goal.overflow_sub-rest
overflow_sub-rest c = omega (arith, at_here c.args.queue c.requires)

pub overflow_mul-from : goal.overflow_mul-from
overflow_mul-from c = omega (arith, at_here c.args.queue c.requires)

pub overflow_add-from : goal.overflow_add-from
overflow_add-from c = omega (arith, at_here c.args.queue c.requires)

pub overflow_add-from-2 : goal.overflow_add-from-2
overflow_add-from-2 c = omega (arith, at_here c.args.queue c.requires)

pub overflow_add-from-3 : goal.overflow_add-from-3
overflow_add-from-3 c = omega (arith, at_here c.args.queue c.requires)

pub slice_bounds-first_frame-end : goal.slice_bounds-first_frame-end
slice_bounds-first_frame-end c = omega (arith, at_here c.args.queue c.requires)

pub offset_bounds-queue-queue-2 : goal.offset_bounds-queue-queue-2
offset_bounds-queue-queue-2 c = omega (arith, at_here c.args.queue c.requires)

pub bounds-queue-queue-2 : goal.bounds-queue-queue-2
bounds-queue-queue-2 c = omega (arith, at_here c.args.queue c.requires)
