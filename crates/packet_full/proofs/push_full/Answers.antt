-- `packet_full::push_full` meets its contract. Assumes nothing.
use Rattle.std.proofs.Common.{ℕ, ◌*◌, ◌<◌, ◌≡◌, sym, ap, ◌∙◌, arith}
use mathlib.Core.Bool.{true}
use mathlib.Core.List.{List}
use borrow.Author.Tests.{not-true, not-false}
use lib.ListN.{length}
use lib.Seq.{length-take-le}
use Rattle.room.specs.Room.{placed}
use Rattle.room.proofs.Parts.{lent_placed}
use Rattle.std.specs.Prelude.{Result, ℕ}
use Rattle.kiss_layout.specs.declared.KissError.{KissError}
use Rattle.kiss_layout.specs.Read.{decoded}
use Rattle.packets.specs.Frames.{zeros}
use Rattle.packets.specs.Queue.{ROOM, STORE, sound_queue, made_full, obeyed, pushed_full}
use Rattle.packets.proofs.Bounds.{at_here}
use Rattle.packets.proofs.Decoding.{in_room}
use Rattle.packets.proofs.Rooms.{length-zeros}
use Rattle.packet_push.proofs.Cases.{pushing_wrong, pushing_unsound, pushing-full, pushing-obeyed, was_accepted}
use Rattle.packet_full.proofs.Cases.{full_malformed, full_short, full_unsealed, full_fills}
use mathlib.Core.Bool.{not}
use Rattle.packet_full.proofs.push_full.Goals as goal

pub returns-then-store-ne-STORE_LEN : goal.returns-then-store-ne-STORE_LEN
unfolding pushed_full
returns-then-store-ne-STORE_LEN c =
    let a = c.args in
    pushing_wrong a.queue a.store.now (made_full a.frame.now) c.if-store-ne-STORE_LEN.true

pub returns-then-not-is_sound : goal.returns-then-not-is_sound
unfolding pushed_full
returns-then-not-is_sound c =
    let a = c.args in
    pushing_unsound a.queue a.store.now (made_full a.frame.now) c.if-store-ne-STORE_LEN.false (sym c.is_sound.ensures ∙ not-true _ (ap not c.if-not-is_sound.true))

pub returns-then-queue : goal.returns-then-queue
unfolding pushed_full
returns-then-queue c =
    let a = c.args in
    pushing-full a.queue a.store.now (made_full a.frame.now) c.if-store-ne-STORE_LEN.false (sym c.is_sound.ensures ∙ not-false _ (ap not c.if-not-is_sound.false)) c.if-queue.true

pub returns-in_default : goal.returns-in_default
unfolding zeros pushed_full obeyed
returns-in_default c =
    let whole : length c.args.store.now ≡ STORE = c.if-store-ne-STORE_LEN.false in
    let sound : sound_queue c.args.queue ≡ true = sym c.is_sound.ensures ∙ not-false _ (ap not c.if-not-is_sound.false) in
    let room : List ℕ = c.decode_payload.new.out in
    let came : (c.decode_payload.result, room) ≡ decoded c.args.frame.now (zeros ROOM) = c.decode_payload.ensures in
    let a = c.args in
    pushing-obeyed a.queue a.store.now (made_full a.frame.now) (whole) (sound) c.if-queue.false (full_malformed a.frame.now came c.in_default.not-Ok)

pub returns-then-n-lt33 : goal.returns-then-n-lt33
unfolding zeros pushed_full obeyed
returns-then-n-lt33 c =
    let whole : length c.args.store.now ≡ STORE = c.if-store-ne-STORE_LEN.false in
    let sound : sound_queue c.args.queue ≡ true = sym c.is_sound.ensures ∙ not-false _ (ap not c.if-not-is_sound.false) in
    let room : List ℕ = c.decode_payload.new.out in
    let came : (c.decode_payload.result, room) ≡ decoded c.args.frame.now (zeros ROOM) = c.decode_payload.ensures in
    let a = c.args in
    pushing-obeyed a.queue a.store.now (made_full a.frame.now) (whole) (sound) c.if-queue.false
    (full_short a.frame.now (came) _ c.in-Ok.is c.if-n-lt33.true)

pub returns-then-m17_crc-ne0 : goal.returns-then-m17_crc-ne0
unfolding zeros pushed_full obeyed
returns-then-m17_crc-ne0 c =
    let whole : length c.args.store.now ≡ STORE = c.if-store-ne-STORE_LEN.false in
    let sound : sound_queue c.args.queue ≡ true = sym c.is_sound.ensures ∙ not-false _ (ap not c.if-not-is_sound.false) in
    let room : List ℕ = c.decode_payload.new.out in
    let came : (c.decode_payload.result, room) ≡ decoded c.args.frame.now (zeros ROOM) = c.decode_payload.ensures in
    let a = c.args in
    pushing-obeyed a.queue a.store.now (made_full a.frame.now) (whole) (sound) c.if-queue.false
    (full_unsealed a.frame.now (came) _ c.in-Ok.is c.if-n-lt33.false (λ z. c.if-m17_crc-ne0.true (c.m17_crc.ensures ∙ z)))

pub returns : goal.returns
unfolding zeros pushed_full obeyed
returns c =
    let whole : length c.args.store.now ≡ STORE = c.if-store-ne-STORE_LEN.false in
    let sound : sound_queue c.args.queue ≡ true = sym c.is_sound.ensures ∙ not-false _ (ap not c.if-not-is_sound.false) in
    let below : c.args.queue.next < 4 = (at_here c.args.queue sound).next in
    let room : List ℕ = c.decode_payload.new.out in
    let came : (c.decode_payload.result, room) ≡ decoded c.args.frame.now (zeros ROOM) = c.decode_payload.ensures in
    let room_length : length room ≡ ROOM = ap (λ (p : Result ℕ KissError × List ℕ). length p.1) came ∙ (in_room c.args.frame.now (zeros ROOM)).0 ∙ length-zeros ROOM in
    let a = c.args in let at : ℕ = ROOM * a.queue.next in
    let s = lent_placed at _ a.store.now _ (ap length c.copy_from_slice.ensures.after ∙ omega (arith, room_length)) ∙ ap (λ (r : List ℕ). placed r a.store.now at) c.copy_from_slice.ensures.after in
    let w = was_accepted a.queue _ c.accepted.ensures below in
    (λ t. (w t, s t))
    ∙ pushing-obeyed a.queue a.store.now (made_full a.frame.now) whole sound c.if-queue.false
    (full_fills a.frame.now came _ c.in-Ok.is c.if-n-lt33.false (sym c.m17_crc.ensures ∙ c.if-m17_crc-ne0.false))

pub slice_bounds-m17_crc-end : goal.slice_bounds-m17_crc-end
unfolding zeros
slice_bounds-m17_crc-end c =
    let room : List ℕ = c.decode_payload.new.out in
    let came : (c.decode_payload.result, room) ≡ decoded c.args.frame.now (zeros ROOM) = c.decode_payload.ensures in
    let room_length : length room ≡ ROOM = ap (λ (p : Result ℕ KissError × List ℕ). length p.1) came ∙ (in_room c.args.frame.now (zeros ROOM)).0 ∙ length-zeros ROOM in
    sym (length-take-le 30 (room) (omega (arith, room_length)))

pub overflow_mul-at : goal.overflow_mul-at
overflow_mul-at c =
    let sound : sound_queue c.args.queue ≡ true = sym c.is_sound.ensures ∙ not-false _ (ap not c.if-not-is_sound.false) in
    let below : c.args.queue.next < 4 = (at_here c.args.queue sound).next in
    omega (arith, below)

pub overflow_add-at : goal.overflow_add-at
overflow_add-at c =
    let sound : sound_queue c.args.queue ≡ true = sym c.is_sound.ensures ∙ not-false _ (ap not c.if-not-is_sound.false) in
    let below : c.args.queue.next < 4 = (at_here c.args.queue sound).next in
    omega (arith, below)

pub slice_bounds-copy_from_slice-end : goal.slice_bounds-copy_from_slice-end
slice_bounds-copy_from_slice-end c =
    let sound : sound_queue c.args.queue ≡ true = sym c.is_sound.ensures ∙ not-false _ (ap not c.if-not-is_sound.false) in
    let below : c.args.queue.next < 4 = (at_here c.args.queue sound).next in
    omega (arith, below, c.if-store-ne-STORE_LEN.false)
