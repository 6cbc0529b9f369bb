-- `packet_basic::push_basic` meets its contract. Assumes nothing.
use Rattle.std.proofs.Common.{ℕ, ◌+◌, ◌*◌, ◌≤◌, ◌<◌, ◌≡◌, sym, ap, ◌∙◌, arith}
use mathlib.Core.Bool.{true}
use borrow.Author.Tests.{not-true, not-false}
use lib.ListN.{length}
use Rattle.kiss_layout.specs.Read.{decoded}
use Rattle.std.specs.Prelude.{Ok, is_ok}
use Rattle.packets.specs.declared.Push.TheVariants.{Ignored, Queued}
use Rattle.packets.specs.Frames.{zeros}
use Rattle.packets.specs.Queue.{ROOM, STORE, sound_queue, basic_room, made_basic, with_packet, stored, obeyed, pushed_basic}
use Rattle.packets.proofs.Bounds.{at_here}
use Rattle.packet_push.proofs.Cases.{pushing_wrong, pushing_unsound, pushing-full, pushing-obeyed, was_accepted}
use Rattle.packet_basic.proofs.Cases.{basic_malformed, basic_overlong, basic_fills}
use Rattle.packet_basic.proofs.Rooms.{decoded-count, decoded-keeps, cleared_again, sealed-after}
use mathlib.Core.Bool.{not}
use Rattle.packet_basic.proofs.push_basic.Goals as goal

pub returns-then-store-ne-STORE_LEN : goal.returns-then-store-ne-STORE_LEN
unfolding pushed_basic
returns-then-store-ne-STORE_LEN c =
    let a = c.args in
    pushing_wrong a.queue a.store.now (made_basic a.frame.now) c.if-store-ne-STORE_LEN.true

pub returns-then-not-is_sound : goal.returns-then-not-is_sound
unfolding pushed_basic
returns-then-not-is_sound c =
    let a = c.args in
    pushing_unsound a.queue a.store.now (made_basic a.frame.now) c.if-store-ne-STORE_LEN.false (sym c.is_sound.ensures ∙ not-true _ (ap not c.if-not-is_sound.true))

pub returns-then-queue : goal.returns-then-queue
unfolding pushed_basic
returns-then-queue c =
    let a = c.args in
    pushing-full a.queue a.store.now (made_basic a.frame.now) c.if-store-ne-STORE_LEN.false (sym c.is_sound.ensures ∙ not-false _ (ap not c.if-not-is_sound.false)) c.if-queue.true

pub returns-then-not-has_payload : goal.returns-then-not-has_payload
unfolding pushed_basic obeyed
returns-then-not-has_payload c =
    let whole : length c.args.store.now ≡ STORE = c.if-store-ne-STORE_LEN.false in
    let sound : sound_queue c.args.queue ≡ true = sym c.is_sound.ensures ∙ not-false _ (ap not c.if-not-is_sound.false) in
    let a = c.args in
    pushing-obeyed a.queue a.store.now (made_basic a.frame.now) (whole) (sound) c.if-queue.false
    (basic_malformed a.frame.now (sym c.has_payload.ensures ∙ not-true _ (ap not c.if-not-has_payload.true)))

pub returns-then-n-gt-MAX_BASIC_LEN : goal.returns-then-n-gt-MAX_BASIC_LEN
unfolding pushed_basic obeyed
returns-then-n-gt-MAX_BASIC_LEN c =
    let whole : length c.args.store.now ≡ STORE = c.if-store-ne-STORE_LEN.false in
    let sound : sound_queue c.args.queue ≡ true = sym c.is_sound.ensures ∙ not-false _ (ap not c.if-not-is_sound.false) in
    let below : c.args.queue.next < 4 = (at_here c.args.queue sound).next in
    let payload : is_ok (decoded c.args.frame.now (zeros 1)).0 ≡ true = sym c.has_payload.ensures ∙ not-false _ (ap not c.if-not-has_payload.false) in
    let fits : ROOM * c.args.queue.next + ROOM ≤ length c.args.store.now = omega (arith, below, whole) in
    let a = c.args in
    let n = decoded-count a.frame.now a.store.now (ROOM * a.queue.next) c.decode_into-n.ensures in
    let s = cleared_again a.frame.now a.store.now (ROOM * a.queue.next) c.decode_into-n.ensures fits (c.fill.ensures.after (λ y e. e)) in
    (λ t. (record { answer = Ok Ignored; queue = a.queue }, s t))
    ∙ pushing-obeyed a.queue a.store.now (made_basic a.frame.now) (whole) (sound) c.if-queue.false
    (basic_overlong a.frame.now (payload) (omega (arith, n, c.if-n-gt-MAX_BASIC_LEN.true)))

pub returns : goal.returns
unfolding pushed_basic obeyed
returns c =
    let whole : length c.args.store.now ≡ STORE = c.if-store-ne-STORE_LEN.false in
    let sound : sound_queue c.args.queue ≡ true = sym c.is_sound.ensures ∙ not-false _ (ap not c.if-not-is_sound.false) in
    let below : c.args.queue.next < 4 = (at_here c.args.queue sound).next in
    let payload : is_ok (decoded c.args.frame.now (zeros 1)).0 ≡ true = sym c.has_payload.ensures ∙ not-false _ (ap not c.if-not-has_payload.false) in
    let fits : ROOM * c.args.queue.next + ROOM ≤ length c.args.store.now = omega (arith, below, whole) in
    let a = c.args in
    let n = decoded-count a.frame.now a.store.now (ROOM * a.queue.next) c.decode_into-n.ensures in
    let k = c.if-n-gt-MAX_BASIC_LEN.false in
    let s = sealed-after a.frame.now a.store.now (ROOM * a.queue.next) c.decode_into-n.ensures (fits) k c.seal.ensures in
    let w = was_accepted a.queue _ c.accepted.ensures (below) in
    (λ t. (w t, s t))
    ∙ ap (λ (m : ℕ). (record { answer = Ok Queued; queue = with_packet a.queue (m + 3) }, stored a.store.now a.queue.next (basic_room m (decoded a.frame.now (zeros 824)).1))) n
    ∙ pushing-obeyed a.queue a.store.now (made_basic a.frame.now) (whole) (sound) c.if-queue.false (basic_fills a.frame.now (payload) (omega (arith, n, k)))

pub seal-requires : goal.seal-requires
seal-requires c =
    let whole : length c.args.store.now ≡ STORE = c.if-store-ne-STORE_LEN.false in
    let sound : sound_queue c.args.queue ≡ true = sym c.is_sound.ensures ∙ not-false _ (ap not c.if-not-is_sound.false) in
    let below : c.args.queue.next < 4 = (at_here c.args.queue sound).next in
    let fits : ROOM * c.args.queue.next + ROOM ≤ length c.args.store.now = omega (arith, below, whole) in
    let a = c.args in
    (omega (arith, fits, decoded-keeps a.frame.now a.store.now (ROOM * a.queue.next) c.decode_into-n.ensures (fits)), c.if-n-gt-MAX_BASIC_LEN.false)

pub overflow_mul-room : goal.overflow_mul-room
overflow_mul-room c =
    let sound : sound_queue c.args.queue ≡ true = sym c.is_sound.ensures ∙ not-false _ (ap not c.if-not-is_sound.false) in
    let below : c.args.queue.next < 4 = (at_here c.args.queue sound).next in
    omega (arith, below)

pub decode_into-n-requires : goal.decode_into-n-requires
decode_into-n-requires c =
    let whole : length c.args.store.now ≡ STORE = c.if-store-ne-STORE_LEN.false in
    let sound : sound_queue c.args.queue ≡ true = sym c.is_sound.ensures ∙ not-false _ (ap not c.if-not-is_sound.false) in
    let below : c.args.queue.next < 4 = (at_here c.args.queue sound).next in
    omega (arith, below, whole)

pub overflow_add-room : goal.overflow_add-room
overflow_add-room c =
    let sound : sound_queue c.args.queue ≡ true = sym c.is_sound.ensures ∙ not-false _ (ap not c.if-not-is_sound.false) in
    let below : c.args.queue.next < 4 = (at_here c.args.queue sound).next in
    omega (arith, below)

pub slice_bounds-fill-end : goal.slice_bounds-fill-end
slice_bounds-fill-end c =
    let whole : length c.args.store.now ≡ STORE = c.if-store-ne-STORE_LEN.false in
    let sound : sound_queue c.args.queue ≡ true = sym c.is_sound.ensures ∙ not-false _ (ap not c.if-not-is_sound.false) in
    let below : c.args.queue.next < 4 = (at_here c.args.queue sound).next in
    let a = c.args in
    let fits : ROOM * a.queue.next + ROOM ≤ length a.store.now = omega (arith, below, whole) in
    omega (arith, below, whole, decoded-keeps a.frame.now a.store.now (ROOM * a.queue.next) c.decode_into-n.ensures fits)
