-- `kiss_frame::put_frame` meets its contract: its stores, one after the other, make the frame. Assumes nothing.
use Rattle.std.proofs.Common.{ℕ, ◌+◌, ◌≤◌, ◌<◌, ◌≡◌, sym, ap, ◌∙◌, arith}
use mathlib.Core.List.{List, ◌++◌}
use borrow.Author.Tests.{leb-true, leb-false}
use lib.ListN.{length, set, length-set}
use lib.Seq.{sets}
use Rattle.room.specs.Room.{over}
use Rattle.std.specs.Prelude.{Ok}
use Rattle.kiss_layout.specs.Escape.{FEND, esc}
use Rattle.kiss_layout.specs.Frame.{frame}
use Rattle.kiss_layout.proofs.Frames.{frame_length_two, put_yes, put_no, frame-stored}
use Rattle.kiss_frame.proofs.put_frame.Goals as goal

pub returns-then-frame_fits : goal.returns-then-frame_fits
returns-then-frame_fits c =
    let room_for : length (esc c.args.first.now) + length (esc c.args.second.now) + 3 ≤ length c.args.room.now = leb-true _ _ (sym c.frame_fits.ensures ∙ c.if-frame_fits.true) in
    let first_count : c.put_content-at.result ≡ length (esc c.args.first.now) = c.put_content-at.ensures.0 in
    let second_count : c.put_content.result ≡ length (esc c.args.second.now) = c.put_content.ensures.0 in
    let a = c.args in
    let h = a.header in let s = a.first.now in let t = a.second.now in
    let at : ℕ = 2 + c.put_content-at.result in let end : ℕ = at + c.put_content.result in
    let len : end + 1 ≡ length (frame h (s ++ t)) = omega (arith, frame_length_two h s t, first_count, second_count) in
    let stored : set c.put_content.new.room end FEND ≡ over (frame h (s ++ t)) a.room.now =
    ap (λ (x : List ℕ). set x end FEND) (c.put_content.ensures.1 ∙ ap (λ (x : List ℕ). sets x at (esc t)) c.put_content-at.ensures.1)
    ∙ frame-stored h s t a.room.now at end (omega (arith, first_count)) (omega (arith, second_count)) (omega (arith, room_for, first_count, second_count)) in
    (λ u. (Ok (len u), stored u)) ∙ sym (put_yes (frame h (s ++ t)) a.room.now (omega (arith, frame_length_two h s t, room_for)))

pub returns : goal.returns
returns c =
    let a = c.args in
    let h = a.header in let s = a.first.now in let t = a.second.now in
    let none : length a.room.now < length (esc s) + length (esc t) + 3 = leb-false _ _ (sym c.frame_fits.ensures ∙ c.if-frame_fits.false) in
    sym (put_no (frame h (s ++ t)) a.room.now (omega (arith, frame_length_two h s t)))

pub bounds-room-0 : goal.bounds-room-0
bounds-room-0 c =
    let room_for : length (esc c.args.first.now) + length (esc c.args.second.now) + 3 ≤ length c.args.room.now = leb-true _ _ (sym c.frame_fits.ensures ∙ c.if-frame_fits.true) in
    omega (arith, room_for)

pub bounds-room-1 : goal.bounds-room-1
bounds-room-1 c =
    let room_for : length (esc c.args.first.now) + length (esc c.args.second.now) + 3 ≤ length c.args.room.now = leb-true _ _ (sym c.frame_fits.ensures ∙ c.if-frame_fits.true) in
    simp length-set (omega (arith, room_for))

pub put_content-at-requires : goal.put_content-at-requires
put_content-at-requires c =
    let room_for : length (esc c.args.first.now) + length (esc c.args.second.now) + 3 ≤ length c.args.room.now = leb-true _ _ (sym c.frame_fits.ensures ∙ c.if-frame_fits.true) in
    simp length-set (omega (arith, room_for))
