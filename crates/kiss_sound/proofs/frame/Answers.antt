-- `kiss_sound::frame` meets its contract. Assumes nothing.
use Rattle.std.proofs.Common.{ℕ, ◌≤◌, ◌≡◌, refl, sym, ap, ◌∙◌, arith}
use mathlib.Core.Bool.{Bool, true, false, false≢true}
use mathlib.Core.List.{List, []}
use borrow.Author.Tests.{eqb-true, not-true, not-false}
use lib.Dec.{eqb}
use lib.ListN.{length, take, length-take}
use lib.Seq.{length-take-le}
use Rattle.std.specs.Option.{unwrap_or}
use Rattle.choice.specs.Pick.{and, pick_no, and_fst, and_snd}
use Rattle.kiss_reader.specs.Reader.{STORE}
use Rattle.kiss_reader.proofs.Fronts.{length-or_empty}
use Rattle.kiss_calls.specs.declared.KissBuffer.{KissBuffer}
use Rattle.kiss_calls.specs.Calls.{sound_buffer, frame_in}
use Rattle.kiss_calls.proofs.Cases.{sound_filled, frame_untaken, frame-part}
use Rattle.kiss_sound.proofs.frame.Goals as goal
use Rattle.kiss_sound.proofs.frame.Goals.{then-not-is_sound-via-then-not-is_sound, then-not-is_sound-via-else-not-is_sound+then-not-buffer}

not_all : (x y z : Bool) → and x y ≡ false → and x (and y z) ≡ false
unfolding and
not_all true true z e = absurd (false≢true (sym e))
not_all true false z e = refl
not_all false y z e = refl

frame_refused : (b : KissBuffer) (store : List ℕ) → and (eqb (length store) STORE) (sound_buffer b store) ≡ false → [] ≡ frame_in b store
unfolding frame_in
frame_refused b store e = pick_no _ (not_all _ _ _ e) refl

-- past the test
full_of : (b : KissBuffer) (store : List ℕ) → and (eqb (length store) STORE) (sound_buffer b store) ≡ true → length store ≡ STORE
full_of b store e = eqb-true _ STORE (and_fst _ _ e)

sound_of : (b : KissBuffer) (store : List ℕ) → and (eqb (length store) STORE) (sound_buffer b store) ≡ true → sound_buffer b store ≡ true
sound_of b store e = and_snd (eqb (length store) STORE) _ e

pub returns-then-not-is_sound : goal.returns-then-not-is_sound
returns-then-not-is_sound c =
    let b = c.args.buffer in let d = c.args.store.now in
    elim c.then-not-is_sound.branch [
      | then-not-is_sound-via-then-not-is_sound w ↦ frame_refused b d (sym c.is_sound.ensures ∙ w.if-not-is_sound.true)
      | then-not-is_sound-via-else-not-is_sound+then-not-buffer w ↦
          let e = sym c.is_sound.ensures ∙ w.if-not-is_sound.false in
          frame_untaken b d (full_of b d e) (sound_of b d e) (not-true _ w.if-not-buffer.true)
    ]

pub slice_bounds-front_len-end : goal.slice_bounds-front_len-end
slice_bounds-front_len-end c =
    let a = c.args in let e = sym c.is_sound.ensures ∙ c.if-not-is_sound.false in
    omega (arith, length-take a.buffer.filled a.store.now, sound_filled a.buffer a.store.now (sound_of a.buffer a.store.now e), full_of a.buffer a.store.now e)

-- the part that is handed out
part : (c : goal.After-unwrap_or-len) → (c.unwrap_or-len.result ≤ length c.args.store.now) × (take c.unwrap_or-len.result c.args.store.now ≡ frame_in c.args.buffer c.args.store.now)
part c =
    let b = c.args.buffer in let d = c.args.store.now in let e = sym c.is_sound.ensures ∙ c.if-not-is_sound.false in
    frame-part b d (full_of b d e) (sound_of b d e) (not-false _ c.if-not-buffer.false) c.unwrap_or-len.result
    (c.unwrap_or-len.ensures ∙ ap (λ l. unwrap_or l 0) c.front_len.ensures ∙ length-or_empty _)

pub slice_bounds-result-end-2 : goal.slice_bounds-result-end-2
slice_bounds-result-end-2 c = sym (length-take-le c.unwrap_or-len.result c.args.store.now (part c).0)

pub returns : goal.returns
returns c = (part c).1
