-- `kiss_next::next_frame` meets its contract. Assumes nothing.
use Rattle.std.proofs.Common.{ℕ, ◌+◌, ◌-◌, ◌≤◌, ◌≡◌, sym, ap, ◌∙◌, arith}
use mathlib.Core.List.{List}
use lib.ListN.{length, take, drop}
use Rattle.std.specs.Prelude.{Ok}
use Rattle.std.specs.Option.{is_some as has}
use Rattle.room.specs.Room.{over}
use Rattle.room.proofs.Copies.{moved, moved_none}
use Rattle.kiss_reader.specs.Reader.{STORE, settle, front, is_some}
use Rattle.kiss_reader.specs.Front.{length_of}
use Rattle.kiss_reader.proofs.Fronts.{length-some}
use Rattle.kiss_calls.specs.Calls.{reader_of}
use Rattle.kiss_calls.proofs.Inner.{settled_part, compacted-by}
use Rattle.kiss_calls.proofs.Cases.{and_sound, passed_within, filled_within, settles_within, next_unsound, next_sound, held_from, compacted-count, compacted-left, settle-flush, as_found}
use Rattle.kiss_next.proofs.next_frame.Goals as goal
use Rattle.kiss_next.proofs.next_frame.Goals.{then-at-ne0, else-at-ne0}

pub returns-then-not-is_sound : goal.returns-then-not-is_sound
returns-then-not-is_sound c =
    let a = c.args in let l = c.if-store-ne-MAX_FRAME_LEN.false in
    next_unsound a.buffer a.store.now l (and_sound a.buffer a.store.now l c.is_sound.ensures ∙ c.if-not-is_sound.true)

pub returns : goal.returns
returns c =
    let b = c.args.buffer in
    let d : List ℕ = c.args.store.now in
    let full : length d ≡ STORE = c.if-store-ne-MAX_FRAME_LEN.false in
    let from : ℕ = c.from-from.result in
    let filled : ℕ = b.filled in
    let n : ℕ = c.settle_at.result in
    let some : from ≤ filled = passed_within b d full c.is_sound.ensures c.if-not-is_sound.false from c.from-from.ensures in
    let fits : filled ≤ length d = filled_within b d full c.is_sound.ensures c.if-not-is_sound.false in
    let within : from + n ≤ filled = settles_within b d full c.is_sound.ensures c.if-not-is_sound.false from c.from-from.ensures n c.settle_at.ensures in
    let held : List ℕ = held_from from filled d in
    let scanned : c.front_len-len.result ≡ length_of (front held) =
    c.front_len-len.ensures ∙ ap (λ (l : List ℕ). length_of (front l)) (settled_part from filled n d some fits c.settle_at.ensures) in
    let marked : c.is_some.result ≡ is_some (front held) = c.is_some.ensures ∙ ap has scanned ∙ length-some (front held) in
    let brought : c.if-at-ne0.store ≡ over (take (filled - (from + n)) (drop (from + n) d)) d =
    elim c.if-at-ne0.branch [
      | then-at-ne0 w ↦ w.store-is ∙ w.copy_within.ensures.after ∙ moved d (from + n) (filled - (from + n)) (omega (arith, within, fits))
      | else-at-ne0 w ↦ w.store-is ∙ moved_none d (from + n) (filled - (from + n)) w.if-at-ne0.false (omega (arith, fits))
    ] in
    let left = compacted-by from filled n d some fits c.settle_at.ensures brought in
    (λ t. (record { answer = Ok (scanned t); buffer = record { filled = compacted-count from filled d left t; taken = marked t } }, compacted-left from filled d left t))
    ∙ as_found (reader_of b d) d held (settle-flush b d ∙ ap (λ (m : ℕ). settle (drop m (take filled d))) (sym c.from-from.ensures))
    ∙ next_sound b d full (and_sound b d full c.is_sound.ensures ∙ c.if-not-is_sound.false)
