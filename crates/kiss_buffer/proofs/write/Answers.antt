-- `kiss_buffer::write` meets its contract. Assumes nothing.
use Rattle.std.proofs.Common.{◌∙◌}
use Rattle.kiss_calls.proofs.Cases.{and_sound, written_unsound}
use Rattle.kiss_buffer.proofs.write.Goals as goal

pub returns-then-not-is_sound : goal.returns-then-not-is_sound
returns-then-not-is_sound c =
    let a = c.args in let l = c.if-store-ne-MAX_FRAME_LEN.false in
    written_unsound a.buffer a.offered.now a.store.now l (and_sound a.buffer a.store.now l c.is_sound.ensures ∙ c.if-not-is_sound.true)

pub make_room-requires-clause-sound : goal.make_room-requires-clause-sound
make_room-requires-clause-sound c =
    let a = c.args in let l = c.if-store-ne-MAX_FRAME_LEN.false in and_sound a.buffer a.store.now l c.is_sound.ensures ∙ c.if-not-is_sound.false
