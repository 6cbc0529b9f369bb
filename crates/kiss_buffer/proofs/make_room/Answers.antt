-- `kiss_buffer::make_room` meets its contract. Assumes nothing.
use Rattle.std.proofs.Common.{ℕ, ◌+◌, ◌-◌, ◌≤◌, sym, ap, ◌∙◌, arith}
use lib.ListN.{length}
use Rattle.std.specs.Prelude.{Option}
use Rattle.std.specs.Option.{unwrap_or}
use Rattle.room.proofs.Copies.{moved}
use Rattle.kiss_calls.proofs.Inner.{compacted-by}
use Rattle.kiss_calls.proofs.Cases.{sound_filled, sound_taken, taken_settles, written_taken, written_roomy, written-full, written_afresh}
use Rattle.kiss_buffer.proofs.make_room.Goals as goal

pub returns-then-buffer-clause-goes_on : goal.returns-then-buffer-clause-goes_on
returns-then-buffer-clause-goes_on c =
    let b = c.args.buffer in let d = c.args.store.now in let n = c.settle_at-at.result in
    let fits : b.filled ≤ length d = omega (arith, sound_filled b d c.requires.sound, c.requires.full) in
    let some : 1 ≤ b.filled = sound_taken b d c.requires.sound c.if-buffer.true in
    let within : 1 + n ≤ b.filled = taken_settles b d c.requires.full c.requires.sound c.if-buffer.true n c.settle_at-at.ensures in
    let brought = c.copy_within.ensures.after ∙ moved d (1 + n) (b.filled - (1 + n)) (omega (arith, within, fits)) in
    λ o. written_taken b o d c.requires.full c.requires.sound c.if-buffer.true (compacted-by 1 b.filled n d some fits c.settle_at-at.ensures brought)

pub returns-then-buffer-ne-MAX_FRAME_LEN-clause-fits : goal.returns-then-buffer-ne-MAX_FRAME_LEN-clause-fits
returns-then-buffer-ne-MAX_FRAME_LEN-clause-fits c x e = omega (arith, sound_filled c.args.buffer c.args.store.now c.requires.sound, ap (λ (o : Option ℕ). unwrap_or o 0) e)

pub returns-then-buffer-ne-MAX_FRAME_LEN-clause-goes_on : goal.returns-then-buffer-ne-MAX_FRAME_LEN-clause-goes_on
returns-then-buffer-ne-MAX_FRAME_LEN-clause-goes_on c o =
    let b = c.args.buffer in let d = c.args.store.now in
    written_roomy b o d c.requires.full c.requires.sound c.if-buffer.false (omega (arith, sound_filled b d c.requires.sound, c.if-buffer-ne-MAX_FRAME_LEN.true))

pub returns-then-holds_frame-clause-goes_on : goal.returns-then-holds_frame-clause-goes_on
returns-then-holds_frame-clause-goes_on c o =
    written-full c.args.buffer o c.args.store.now c.requires.full c.requires.sound c.if-buffer.false (omega (arith, c.if-buffer-ne-MAX_FRAME_LEN.false))
    (sym c.holds_frame.ensures ∙ c.if-holds_frame.true)

pub returns-clause-goes_on : goal.returns-clause-goes_on
returns-clause-goes_on c o =
    written_afresh c.args.buffer o c.args.store.now c.requires.full c.requires.sound c.if-buffer.false (omega (arith, c.if-buffer-ne-MAX_FRAME_LEN.false))
    (sym c.holds_frame.ensures ∙ c.if-holds_frame.false)
