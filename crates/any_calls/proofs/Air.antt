-- Frames from the air, over the world. Assumes nothing.
use Prim.Native.Nat.{ℕ, ◌≤◌}
use Prim
use mathlib.Core.Bool.{Bool, true, false, false≢true}
use mathlib.Core.Path.{◌≡◌, refl, sym, ap, ◌∙◌, subst}
use mathlib.Core.List.{List}
use native.Mathlib.Omega.{arith}
use lib.Dec.{eqb, ltb}
use lib.ListN.{length}
use borrow.Author.Tests.{eq-eqb}
use Rattle.choice.specs.Pick.{pick, pick_all}
use Rattle.protocol.specs.Lsf.{field_of, mode_bits}
use Rattle.protocol.specs.Kinds.{mode_of}
use Rattle.protocol.specs.declared.PacketFrame.{PacketFrame}
use Rattle.protocol.specs.declared.PacketFrameCounter.{PacketFrameCounter}
use Rattle.protocol.specs.declared.PacketFrameCounter.TheVariants.{Frame as Counted, FinalFrame as Final}
use Rattle.protocol.specs.declared.StreamFrame.{StreamFrame}
use Rattle.protocol.specs.declared.lsf.Mode.{Mode}
use Rattle.protocol.specs.declared.lsf.Mode.TheVariants.{Packet, Stream}
use Rattle.state.specs.declared.Reception.{Reception}
use Rattle.state.specs.declared.Reception.TheVariants.{Nothing, Acquiring as Segments, Stream as InStream, Packet as InPacket}
use Rattle.state.specs.declared.State.{State}
use Rattle.state.specs.State.{transmits, reception_of}
use Rattle.radio.specs.declared.Radio.{Radio}
use Rattle.std.specs.Prelude.{Result, Ok, Err}
use Rattle.radio.specs.declared.AirError.{AirError}
use Rattle.radio.specs.declared.Heard.{Heard}
use Rattle.radio.specs.Radio.{RX, MESSAGE, unless_sending, air_number}
use Rattle.radio.specs.Box.{Box, left_by, Sound as RadioSound}
use Rattle.radio.proofs.Kept as radio
use Rattle.air_lsf.specs.Begun.{begun, lsf_heard}
use Rattle.tnc_air.specs.Collected.{collected_after}
use Rattle.tnc_air.specs.Heard.{collected_in, finished_after, finished_in, finished, counted, packet_heard}
use Rattle.tnc_stream.specs.Restarted.{restarted}
use Rattle.tnc_stream.specs.Acquired.{acquired_with}
use Rattle.tnc_stream.specs.Followed.{followed}
use Rattle.tnc_stream.specs.Stream.{acquired, received_in, ranged, stream_heard}
use Rattle.tnc_core.specs.Tnc.{sound_tnc, with_radio}
use Rattle.tnc_core.proofs.Bounds.{parts}
use Rattle.tnc_core.proofs.Kept.{with_radio_is_sound}
use Rattle.tnc_receive.specs.declared.TncHeard.{TncHeard}
use Rattle.tnc_receive.specs.Calls.{put_heard, tnc_hears, heard_by, air_heard}
use Rattle.tnc_receive.proofs.Cases.{heard_as}
use Rattle.any_calls.specs.Calls.{World, hears, after_heard}
use Rattle.any_calls.specs.Promises.{Sound}

-- the part of the world that a frame from the air can change
abbrev pub box : World → Box
box w = record { radio = w.tnc.radio; rx = w.rx; out = w.message }

-- where the TNC hears, its stores and its record are right
told-frame : Result (Unit {0}) AirError → Type 0
told-frame (Ok done) = Prim.Unit {0}
told-frame (Err e) = ⊥

hears_sound : (w : World) → tnc_hears w.tnc w.rx w.message ≡ Ok tt → sound_tnc w.tnc ≡ true
unfolding tnc_hears told-frame
hears_sound w e = go (subst told-frame (sym e) Prim.tt)
  where
    go : told-frame (tnc_hears w.tnc w.rx w.message) → sound_tnc w.tnc ≡ true
    go = pick_all (λ (k : Result (Unit {0}) AirError). told-frame k → sound_tnc w.tnc ≡ true) (eqb (length w.rx) RX) _ _
        (λ t. pick_all (λ (k : Result (Unit {0}) AirError). told-frame k → sound_tnc w.tnc ≡ true) (eqb (length w.message) MESSAGE) _ _
        (λ u. pick_all (λ (k : Result (Unit {0}) AirError). told-frame k → sound_tnc w.tnc ≡ true) (sound_tnc w.tnc) _ _ (λ v i. v) (λ v. absurd)) (λ u. absurd)) (λ t. absurd)

-- what holds of every refusal, and of what the radio comes to in a sound TNC, holds of a frame
pub each_heard : (w : World) (h : Heard × List ℕ × List ℕ) (Q : TncHeard × List ℕ × List ℕ → Type 0) → ((a : (Result (Unit {0}) AirError)) → Q (record { answer = a; tnc = w.tnc }, w.rx, w.message))
    → (sound_tnc w.tnc ≡ true → Q (put_heard w.tnc h.0, h.1, h.2)) → Q (hears w h)
unfolding air_heard
each_heard w h Q f d = go (tnc_hears w.tnc w.rx w.message) refl
  where
    go : (k : Result (Unit {0}) AirError) → tnc_hears w.tnc w.rx w.message ≡ k → Q (heard_by k w.tnc w.rx w.message h)
    go (Ok tt) e = d (hears_sound w e)
    go (Err x) e = f (Err x)

-- the world with another such part, where PTT follows the state
abbrev with_box : World → Box → World
with_box w x =
    record { tnc = with_radio w.tnc x.radio; channel = w.channel; reader = w.reader; packets = w.packets; streams = w.streams; rx = x.rx; message = x.out }

same_box : (w : World) → sound_tnc w.tnc ≡ true → with_box w (box w) ≡ w
same_box w s = λ i. record {
  tnc = record { buffer = w.tnc.buffer; sending = w.tnc.sending; radio = w.tnc.radio; ptt = sym (parts w.tnc s).its_ptt i };
  channel = w.channel;
  reader = w.reader;
  packets = w.packets;
  streams = w.streams;
  rx = w.rx;
  message = w.message;
}

pub heard-refused : (w : World) (h : Heard × List ℕ × List ℕ) → ((air_number h.0.answer ≡ 0 → ⊥) → left_by h ≡ box w)
    → (air_number (hears w h).0.answer ≡ 0 → ⊥) → after_heard w (hears w h) ≡ w
heard-refused w h k =
    each_heard w h (λ r. (air_number r.0.answer ≡ 0 → ⊥) → after_heard w r ≡ w) (λ a n. refl) (λ s n. ap (with_box w) (k n) ∙ same_box w s)

module _ (w : World) (s : Sound w) (h : Heard × List ℕ × List ℕ) where
  pub box_sound : RadioSound (box w)
  box_sound = record { its_rx = s.its_rx; its_out = s.its_message; its_state = (parts w.tnc s.its_tnc).its_radio }

  hears-frame : tnc_hears w.tnc w.rx w.message ≡ Ok tt
  unfolding tnc_hears pick
  hears-frame = rw (eq-eqb (length w.rx) RX s.its_rx, eq-eqb (length w.message) MESSAGE s.its_message, s.its_tnc)

  comes_to : (put_heard w.tnc h.0, h.1, h.2) ≡ hears w h
  comes_to = heard_as w.tnc w.rx w.message h (Ok tt) refl hears-frame

  pub heard_sound : RadioSound (left_by h) → Sound (after_heard w (hears w h))
  heard_sound k =
      subst (λ r. Sound (after_heard w r)) comes_to
      (record {
        its_reader = s.its_reader;
        its_packets = s.its_packets;
        its_streams = s.its_streams;
        its_rx = k.its_rx;
        its_message = k.its_out;
        its_tnc = with_radio_is_sound w.tnc h.0.radio s.its_tnc k.its_state;
        its_buffer = s.its_buffer;
        its_channel = s.its_channel;
      })

  pub heard_answer : h.0.answer ≡ (hears w h).0.answer
  heard_answer = ap (λ (r : TncHeard × List ℕ × List ℕ). r.0.answer) comes_to

-- ---- a frame that is not refused for its stores or record is answered 0 or 6, and begins no transmission

pub record Fine (r : Radio) (h : Heard) : Type 0 where
  pub at_most_6 : air_number h.answer ≤ 6
  pub was : (k : State) → transmits k ≡ true → h.radio.state ≡ k → r.state ≡ k

-- with a state in which nothing is sent, and with the state as it was
off : {r : Radio} {h : Heard} → air_number h.answer ≤ 6 → transmits h.radio.state ≡ false → Fine r h
off n e = record { at_most_6 = n; was = λ k on f. absurd (false≢true (sym e ∙ ap transmits f ∙ on)) }

same : {r : Radio} {h : Heard} → air_number h.answer ≤ 6 → h.radio.state ≡ r.state → Fine r h
same n e = record { at_most_6 = n; was = λ k on f. sym e ∙ f }

fine_sending : (x : Box) (h : Heard × List ℕ × List ℕ) → RadioSound x → Fine x.radio h.0 → Fine x.radio (unless_sending x.radio x.rx x.out h).0
fine_sending x h s f = by (transmits x.radio.state) refl
  where
    by : (b : Bool) → transmits x.radio.state ≡ b → Fine x.radio (unless_sending x.radio x.rx x.out h).0
    by true e = subst (λ (r : Heard × List ℕ × List ℕ). Fine x.radio r.0) (sym (radio.sending_hears_nothing x h s e)) (same (omega arith) refl)
    by false e = subst (λ (r : Heard × List ℕ × List ℕ). Fine x.radio r.0) (sym (radio.listened_to x h (record { sound = s; not_sending = e }))) f

begun_fine : (m : Mode) (r : Radio) (lsf rx out : List ℕ) → Fine r (begun m r lsf rx out).0
begun_fine Packet r lsf rx out = off (omega arith) refl
begun_fine Stream r lsf rx out = off (omega arith) refl

pub lsf_fine : (x : Box) (lsf : List ℕ) → RadioSound x → Fine x.radio (lsf_heard x.radio lsf x.rx x.out).0
unfolding lsf_heard
lsf_fine x lsf s = fine_sending x (begun (mode_of (field_of mode_bits lsf)) x.radio lsf x.rx x.out) s (begun_fine (mode_of (field_of mode_bits lsf)) x.radio lsf x.rx x.out)

collected_fine : (k : Reception) (r : Radio) (index : ℕ) (payload rx : List ℕ) → Fine r (collected_in k r index payload rx).0
unfolding collected_after
collected_fine Nothing r index payload rx = off (omega arith) refl
collected_fine (Segments mask) r index payload rx = off (omega arith) refl
collected_fine (InStream expected) r index payload rx = off (omega arith) refl
collected_fine (InPacket count) r index payload rx =
    pick_all (λ (h : Heard × List ℕ). Fine r h.0) (eqb index count) _ _
    (λ t. pick_all (λ (h : Heard × List ℕ). Fine r h.0) (ltb index 32) _ _ (λ u. off (omega arith) refl) (λ u. off (omega arith) refl)) (λ t. off (omega arith) refl)

finished_fine : (k : Reception) (r : Radio) (len : ℕ) (payload rx out : List ℕ) → Fine r (finished_in k r len payload rx out).0
unfolding finished_after
finished_fine Nothing r len payload rx out = off (omega arith) refl
finished_fine (Segments mask) r len payload rx out = off (omega arith) refl
finished_fine (InStream expected) r len payload rx out = off (omega arith) refl
finished_fine (InPacket count) r len payload rx out = off (omega arith) refl

counted_fine : (c : PacketFrameCounter) (r : Radio) (payload rx out : List ℕ) → Fine r (counted c r payload rx out).0
unfolding finished
counted_fine (Counted index) r payload rx out = collected_fine (reception_of r.state) r index payload rx
counted_fine (Final len) r payload rx out =
    pick_all (λ (h : Heard × List ℕ × List ℕ). Fine r h.0) (ltb 25 len) _ _ (λ t. same (omega arith) refl) (λ t. finished_fine (reception_of r.state) r len payload rx out)

pub packet_fine : (x : Box) (f : PacketFrame) → RadioSound x → Fine x.radio (packet_heard x.radio f x.rx x.out).0
unfolding packet_heard
packet_fine x f s = fine_sending x _ s (counted_fine f.counter x.radio f.payload x.rx x.out)

received_fine : (k : Reception) (r : Radio) (f : StreamFrame) (rx out : List ℕ) → Fine r (received_in k r f rx out).0
unfolding restarted acquired acquired_with followed
received_fine Nothing r f rx out = off (omega arith) refl
received_fine (Segments mask) r f rx out = pick_all (λ (h : Heard × List ℕ). Fine r h.0) _ _ _ (λ t. off (omega arith) refl) (λ t. off (omega arith) refl)
received_fine (InStream expected) r f rx out =
    pick_all (λ (h : Heard × List ℕ × List ℕ). Fine r h.0) (ltb f.frame_number expected) _ _ (λ t. off (omega arith) refl)
    (λ t. off (omega arith) (pick_all (λ (k : State). transmits k ≡ false) f.end_of_stream _ _ (λ u. refl) (λ u. refl)))
received_fine (InPacket count) r f rx out = off (omega arith) refl

ranged_fine : (r : Radio) (f : StreamFrame) (rx out : List ℕ) → Fine r (ranged r f rx out).0
unfolding ranged
ranged_fine r f rx out =
    pick_all (λ (h : Heard × List ℕ × List ℕ). Fine r h.0) (ltb 5 f.lich_idx) _ _ (λ t. same (omega arith) refl)
    (λ t. pick_all (λ (h : Heard × List ℕ × List ℕ). Fine r h.0) (ltb 32767 f.frame_number) _ _ (λ u. same (omega arith) refl)
    (λ u. received_fine (reception_of r.state) r f rx out))

pub stream_fine : (x : Box) (f : StreamFrame) → RadioSound x → Fine x.radio (stream_heard x.radio f x.rx x.out).0
unfolding stream_heard
stream_fine x f s = fine_sending x _ s (ranged_fine x.radio f x.rx x.out)
