-- The promises of specs/Promises.antt are kept. Assumes nothing.
use Prim.Native.Nat.{ℕ, ◌+◌, ◌*◌, ◌≤◌}
use mathlib.Core.Logic.{◌≢◌}
use mathlib.Core.Path.{◌≡◌, refl, sym, ap, ◌∙◌, subst}
use mathlib.Core.List.{List}
use native.Mathlib.Omega.{arith}
use lib.Dec.{eqb, ltb}
use lib.ListN.{length, take, drop, length-take}
use lib.Seq.{length-take-le}
use borrow.Author.Tests.{le-leb, ltb-true, ltb-false}
use Rattle.choice.specs.Pick.{pick_all, and_snd, and_both}
use Rattle.room.proofs.Places.{placed-length}
use Rattle.protocol.specs.Lsf.{part, field_of, mode_bits}
use Rattle.protocol.specs.Kinds.{mode_of}
use Rattle.protocol.specs.declared.PacketFrameCounter.{PacketFrameCounter}
use Rattle.protocol.specs.declared.PacketFrameCounter.TheVariants.{Frame as Counted, FinalFrame as Final}
use Rattle.protocol.specs.declared.lsf.Mode.{Mode}
use Rattle.protocol.specs.declared.lsf.Mode.TheVariants.{Packet, Stream}
use Rattle.kiss_layout.specs.Build.{full_packet, stream_setup, frame_of}
use Rattle.kiss_layout.proofs.Kept.{built_at_most_1713}
use Rattle.state.specs.declared.Reception.{Reception}
use Rattle.state.specs.declared.Reception.TheVariants.{Nothing, Acquiring as Segments, Stream as InStream, Packet as InPacket}
use Rattle.state.specs.State.{reception_of}
use Rattle.radio.specs.declared.Radio.{Radio}
use Rattle.std.specs.Prelude.{Ok}
use Rattle.radio.specs.declared.Heard.{Heard}
use Rattle.radio.specs.Radio.{sound_radio, air_number}
use Rattle.air_lsf.specs.Begun.{begun, lsf_heard}
use Rattle.tnc_air.specs.Collected.{idle, place_of, collected_after}
use Rattle.tnc_air.specs.Heard.{collected_in, completed, finished_after, finished_in, finished, counted, packet_heard}
use Rattle.radio.specs.Box.{Box, left_by, Sound, Receiving}
use Rattle.tnc_air.specs.Promises.{lsf, packet, lsf_at, RefusedKeepsAll, SendingHearsNothing, SoundStaysSound, PacketBegins, PacketLsfClears, StreamBegins, StreamLsfIsTold}
use Rattle.radio.proofs.Messages.{setup_accepted, packet_accepted, length_over, told_sound, left_over}
use Rattle.radio.proofs.Kept.{listened_to, each}
use Rattle.radio.proofs.Kept.{sending_hears_nothing as nothing}
use Rattle.tnc_air.proofs.Packets.{count_in_lem}

-- what a frame left is as it was, or it was answered 0
Fair : Box → Heard × List ℕ × List ℕ → Type 0
Fair x h = air_number h.0.answer ≢ 0 → left_by h ≡ x

begun_fair : (m : Mode) (x : Box) (bytes : List ℕ) → Fair x (begun m x.radio bytes x.rx x.out)
unfolding Fair
begun_fair Packet x bytes n = absurd (n refl)
begun_fair Stream x bytes n = absurd (n refl)

collected-done : (k : Reception) (r : Radio) (index : ℕ) (payload rx : List ℕ) → (collected_in k r index payload rx).0.answer ≡ (Ok tt)
unfolding collected_after
collected-done Nothing r index payload rx = refl
collected-done (Segments mask) r index payload rx = refl
collected-done (InStream expected) r index payload rx = refl
collected-done (InPacket count) r index payload rx =
    pick_all (λ (h : Heard × List ℕ). h.0.answer ≡ (Ok tt)) (eqb index count) _ _
    (λ t. pick_all (λ (h : Heard × List ℕ). h.0.answer ≡ (Ok tt)) (ltb index 32) _ _ (λ u. refl) (λ u. refl)) (λ t. refl)

finished-done : (k : Reception) (r : Radio) (len : ℕ) (payload rx out : List ℕ) → (finished_in k r len payload rx out).0.answer ≡ (Ok tt)
unfolding finished_after
finished-done Nothing r len payload rx out = refl
finished-done (Segments mask) r len payload rx out = refl
finished-done (InStream expected) r len payload rx out = refl
finished-done (InPacket count) r len payload rx out = refl

counted_fair : (k : PacketFrameCounter) (x : Box) (payload : List ℕ) → Fair x (counted k x.radio payload x.rx x.out)
unfolding Fair finished
counted_fair (Counted index) x payload = λ n. absurd (n (ap air_number (collected-done (reception_of x.radio.state) x.radio index payload x.rx)))
counted_fair (Final len) x payload =
    pick_all (Fair x) (ltb 25 len) _ _ (λ t n. refl)
    (λ t n. absurd (n (ap air_number (finished-done (reception_of x.radio.state) x.radio len payload x.rx x.out))))

pub refused_keeps_all : RefusedKeepsAll
unfolding lsf_heard packet_heard Fair
refused_keeps_all x (lsf bytes) = each (Fair x) x _ (λ a n. refl) (λ t. begun_fair (mode_of (field_of mode_bits bytes)) x bytes)
refused_keeps_all x (packet frame) = each (Fair x) x _ (λ a n. refl) (λ t. counted_fair frame.counter x frame.payload)

pub sending_hears_nothing : SendingHearsNothing
unfolding lsf_heard packet_heard
sending_hears_nothing x (lsf bytes) s on = nothing x _ s on
sending_hears_nothing x (packet frame) s on = nothing x _ s on

-- ---- the bounds

begun_sound : (m : Mode) (x : Box) (bytes : List ℕ) → length bytes ≡ 30 → Sound x → Sound (left_by (begun m x.radio bytes x.rx x.out))
unfolding sound_radio
begun_sound Packet x bytes e s =
    record {
      its_rx = length_over bytes x.rx (omega (arith, e, s.its_rx)) ∙ s.its_rx;
      its_out = s.its_out;
      its_state = and_both refl (and_snd _ _ s.its_state);
    }
begun_sound Stream x bytes e s =
    let ok = setup_accepted bytes e in let short = built_at_most_1713 (stream_setup bytes) ok in
    record {
      its_rx = s.its_rx;
      its_out = length_over (frame_of (stream_setup bytes)) x.out (omega (arith, short, s.its_out)) ∙ s.its_out;
      its_state = and_both refl (told_sound (stream_setup bytes) ok);
    }

-- a radio that went idle
idle_sound : (x : Box) → Sound x → Sound (left_by (idle x.radio, x.rx, x.out))
unfolding sound_radio
idle_sound x s = record { its_rx = s.its_rx; its_out = s.its_out; its_state = and_both refl (and_snd _ _ s.its_state) }

collected_sound : (x : Box) (index count : ℕ) (payload : List ℕ) → length payload ≡ 25 → Sound x
    → Sound (left_by ((collected_after x.radio count index payload x.rx).0, (collected_after x.radio count index payload x.rx).1, x.out))
unfolding collected_after sound_radio
collected_sound x index count payload e s =
    pick_all (λ (h : Heard × List ℕ). Sound (left_by (h.0, h.1, x.out))) (eqb index count) _ _
    (λ t. pick_all (λ (h : Heard × List ℕ). Sound (left_by (h.0, h.1, x.out))) (ltb index 32) _ _
    (λ u. let k = ltb-true index 32 u in
    record {
      its_rx = placed-length payload x.rx (place_of index) (omega (arith, e, s.its_rx, k)) ∙ s.its_rx;
      its_out = s.its_out;
      its_state = and_both (le-leb (index + 1) 32 (omega (arith, k))) (and_snd _ _ s.its_state);
    })
    (λ u. idle_sound x s)) (λ t. idle_sound x s)

collected_in_sound : (k : Reception) (x : Box) (index : ℕ) (payload : List ℕ) → length payload ≡ 25 → Sound x
    → Sound (left_by ((collected_in k x.radio index payload x.rx).0, (collected_in k x.radio index payload x.rx).1, x.out))
collected_in_sound Nothing x index payload e s = idle_sound x s
collected_in_sound (Segments mask) x index payload e s = idle_sound x s
collected_in_sound (InStream expected) x index payload e s = idle_sound x s
collected_in_sound (InPacket count) x index payload e s = collected_sound x index count payload e s

told_packet_sound : (x : Box) (count len : ℕ) (payload : List ℕ) → count ≤ 32 → len ≤ 25 → length payload ≡ 25 → Sound x
    → Sound (left_by (finished_after count len payload x.rx x.out))
unfolding finished_after sound_radio
told_packet_sound x count len payload c l e s =
    let p = take len payload in let k = length-take-le len payload (omega (arith, e, l)) in
    let whole = completed count len payload x.rx in
    let full = placed-length p x.rx (place_of count) (omega (arith, k, s.its_rx, c, l)) ∙ s.its_rx in
    let ok = packet_accepted (part 0 30 whole) (part 30 (25 * count + len) whole) (length-take-le 30 whole (omega (arith, full)))
    (omega (arith, length-take (25 * count + len) (drop 30 whole), c, l)) in
    let b = full_packet (part 0 30 whole) (part 30 (25 * count + len) whole) in
    record {
      its_rx = full;
      its_out = length_over (frame_of b) x.out (omega (arith, built_at_most_1713 b ok, s.its_out)) ∙ s.its_out;
      its_state = and_both refl (told_sound b ok);
    }

finished_in_sound : (k : Reception) (x : Box) (len : ℕ) (payload : List ℕ) → reception_of x.radio.state ≡ k → len ≤ 25 → length payload ≡ 25 → Sound x
    → Sound (left_by (finished_in k x.radio len payload x.rx x.out))
finished_in_sound Nothing x len payload k l e s = idle_sound x s
finished_in_sound (Segments mask) x len payload k l e s = idle_sound x s
finished_in_sound (InStream expected) x len payload k l e s = idle_sound x s
finished_in_sound (InPacket count) x len payload k l e s = told_packet_sound x count len payload (count_in_lem x.radio count s.its_state refl k) l e s

counted_sound : (k : PacketFrameCounter) (x : Box) (payload : List ℕ) → length payload ≡ 25 → Sound x → Sound (left_by (counted k x.radio payload x.rx x.out))
unfolding finished
counted_sound (Counted index) x payload e s = collected_in_sound (reception_of x.radio.state) x index payload e s
counted_sound (Final len) x payload e s =
    pick_all (λ h. Sound (left_by h)) (ltb 25 len) _ _ (λ t. s) (λ t. finished_in_sound (reception_of x.radio.state) x len payload refl (ltb-false 25 len t) e s)

pub sound_stays_sound : SoundStaysSound
unfolding lsf_heard packet_heard
sound_stays_sound x (lsf bytes) e s =
    each (λ h. Sound (left_by h)) x _ (λ a. s) (λ off. begun_sound (mode_of (field_of mode_bits bytes)) x bytes e s)
sound_stays_sound x (packet frame) e s =
    each (λ h. Sound (left_by h)) x _ (λ a. s) (λ off. counted_sound frame.counter x frame.payload e s)

-- ---- an LSF that is listened to

pub heard : (x : Box) (bytes : List ℕ) (m : Mode) → Receiving x → mode_of (field_of mode_bits bytes) ≡ m → lsf_at x bytes ≡ begun m x.radio bytes x.rx x.out
unfolding lsf_heard
heard x bytes m g e =
    listened_to x _ g ∙ ap (λ (k : Mode). begun k x.radio bytes x.rx x.out) e

pub packet_lsf_clears : PacketLsfClears
packet_lsf_clears x bytes g e m = subst (λ h. PacketBegins x (left_by h) bytes) (sym (heard x bytes Packet g m)) (record { its_state = refl; its_message = refl })

pub stream_lsf_is_told : StreamLsfIsTold
stream_lsf_is_told x bytes g e m =
    subst (λ h. StreamBegins (left_by h) bytes) (sym (heard x bytes Stream g m))
    (record { its_state = refl; its_message = left_over (frame_of (stream_setup bytes)) x.out })
