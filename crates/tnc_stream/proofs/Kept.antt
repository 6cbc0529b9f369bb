-- The promises of specs/Promises.antt are kept. Assumes nothing.
use Prim.Native.Nat.{ℕ, ◌+◌, ◌≤◌, ◌<◌}
use mathlib.Core.Bool.{true, false}
use mathlib.Core.Logic.{◌≢◌}
use mathlib.Core.Path.{◌≡◌, refl, sym, ap, ◌∙◌, subst}
use mathlib.Core.List.{List}
use native.Mathlib.Omega.{arith}
use borrow.Author.Tests.{lt-ltb, ltb-false}
use lib.Dec.{ltb}
use lib.ListN.{length, take, drop}
use lib.Seq.{length-take-le, take_at}
use Rattle.choice.specs.Pick.{pick_yes, pick_no, pick_all, and_snd, and_both}
use Rattle.room.specs.Room.{over}
use Rattle.protocol.specs.declared.StreamFrame.{StreamFrame}
use Rattle.lich.specs.declared.LichCollection.{LichCollection}
use Rattle.lich.specs.Lich.{new_collection}
use Rattle.kiss_layout.specs.Build.{stream_setup, stream_data}
use Rattle.state.specs.declared.State.{State}
use Rattle.state.specs.declared.State.TheVariants.{Idle, RxAcquiringStream, RxStream, RxPacket, TxStream, TxStreamSentEndOfStream, TxPacket, TxEnding, TxEndingAtTime}
use Rattle.state.specs.declared.Reception.{Reception}
use Rattle.state.specs.declared.Reception.TheVariants.{Nothing, Acquiring, Stream, Packet}
use Rattle.state.specs.State.{reception_of, sound_state}
use Rattle.radio.specs.declared.Radio.{Radio}
use Rattle.std.specs.Prelude.{Ok, Err}
use Rattle.radio.specs.declared.AirError.TheVariants.{OutOfRange}
use Rattle.radio.specs.declared.Heard.{Heard}
use Rattle.radio.specs.Radio.{sound_radio, answered, air_number}
use Rattle.radio.specs.Box.{Box, left_by, Sound, Receiving}
use Rattle.radio.specs.Promises.{Told}
use Rattle.radio.proofs.Messages.{setup_accepted, data_accepted, length_over}
use Rattle.radio.proofs.Kept.{listened_to, each, to_host_is_told, told_stays_sound}
use Rattle.radio.proofs.Kept.{sending_hears_nothing as nothing}
use Rattle.tnc_stream.specs.Restarted.{with_frame, collecting, restarted}
use Rattle.tnc_stream.proofs.Segments.{frame_mask, frame_thirty}
use Rattle.tnc_stream.specs.Acquired.{complete, acquired_with}
use Rattle.tnc_stream.specs.Followed.{behind, followed}
use Rattle.tnc_stream.proofs.Follows.{forward}
use Rattle.tnc_stream.proofs.Follows.{backward as goes_Back}
use Rattle.tnc_stream.specs.Stream.{collection_at, acquired, received_in, ranged, stream_heard}
use Rattle.tnc_stream.specs.Promises.{stream_at, after, Collects, Typed, InRange, RefusedKeepsAll, SendingHearsNothing, IndexOver5IsRefused, NumberOver32767IsRefused, SoundStaysSound, StreamFrameIsTold, Restarts, idle, packet, backward, Collected, AcquisitionRestarts, BackwardRestarts, SegmentIsKept, CompleteIsTold}
use Rattle.tnc_stream.proofs.Frames.{index_over, received_as, mask_in_lem}

-- ---- refusals

-- what a frame left is as it was, or it was answered 0
Fair : Box → Heard × List ℕ × List ℕ → Type 0
Fair x h = air_number h.0.answer ≢ 0 → left_by h ≡ x

received_done : (k : Reception) (r : Radio) (f : StreamFrame) (rx out : List ℕ) → (received_in k r f rx out).0.answer ≡ (Ok tt)
unfolding restarted acquired acquired_with followed
received_done Nothing r f rx out = refl
received_done (Acquiring mask) r f rx out = pick_all (λ (h : Heard × List ℕ). h.0.answer ≡ (Ok tt)) (complete (with_frame f (collection_at mask rx))) _ _ (λ t. refl) (λ t. refl)
received_done (Stream expected) r f rx out = pick_all (λ (h : Heard × List ℕ × List ℕ). h.0.answer ≡ (Ok tt)) (ltb f.frame_number expected) _ _ (λ t. refl) (λ t. refl)
received_done (Packet count) r f rx out = refl

ranged_fair : (x : Box) (f : StreamFrame) → Fair x (ranged x.radio f x.rx x.out)
unfolding Fair ranged
ranged_fair x f =
    pick_all (Fair x) (ltb 5 f.lich_idx) _ _ (λ t n. refl)
    (λ t. pick_all (Fair x) (ltb 32767 f.frame_number) _ _ (λ u n. refl)
    (λ u n. absurd (n (ap air_number (received_done (reception_of x.radio.state) x.radio f x.rx x.out)))))

pub refused_keeps_all : RefusedKeepsAll
unfolding stream_heard Fair
refused_keeps_all x f = each (Fair x) x _ (λ a n. refl) (λ g. ranged_fair x f)

pub sending_hears_nothing : SendingHearsNothing
unfolding stream_heard
sending_hears_nothing x f s on = nothing x _ s on

-- a frame that is listened to
listened : (x : Box) (f : StreamFrame) → Receiving x → stream_at x f ≡ ranged x.radio f x.rx x.out
unfolding stream_heard
listened x f g = listened_to x _ g

pub index_over_5_is_refused : IndexOver5IsRefused
index_over_5_is_refused x f g n = listened x f g ∙ sym (index_over x.radio f x.rx x.out refl n)

pub number_over_32767_is_refused : NumberOver32767IsRefused
unfolding ranged
number_over_32767_is_refused x f g n =
    listened x f g
    ∙ pick_all (λ (h : Heard × List ℕ × List ℕ). h ≡ (answered (Err OutOfRange) x.radio, x.rx, x.out)) (ltb 5 f.lich_idx) _ _ (λ t. refl)
    (λ t. sym (pick_yes _ (lt-ltb 32767 f.frame_number n) refl))

-- ---- the bounds

-- a box that collects segments
collecting_sound : (x : Box) (c : LichCollection) → c.mask < 64 → length c.segments ≡ 30 → Sound x → Sound (left_by (collecting x.radio c, over c.segments x.rx, x.out))
unfolding sound_radio
collecting_sound x c m n s =
    record {
      its_rx = length_over c.segments x.rx (omega (arith, n, s.its_rx)) ∙ s.its_rx;
      its_out = s.its_out;
      its_state = and_both (lt-ltb c.mask 64 m) (and_snd _ _ s.its_state);
    }

module _ (x : Box) (f : StreamFrame) (ty : Typed f) (i : f.lich_idx ≤ 5) (s : Sound x) where
  restarted_sound : Sound (left_by ((restarted x.radio f x.rx).0, (restarted x.radio f x.rx).1, x.out))
  unfolding restarted
  restarted_sound = collecting_sound x (with_frame f new_collection) (frame_mask f new_collection i (omega arith)) (frame_thirty f new_collection i ty.its_part refl) s

  acquired_sound : (mask : ℕ) → mask < 64 → Sound (left_by (acquired x.radio mask f x.rx x.out))
  unfolding acquired acquired_with
  acquired_sound mask m =
      let c = collection_at mask x.rx in let d = with_frame f c in
      let n = frame_thirty f c i ty.its_part (length-take-le 30 x.rx (omega (arith, s.its_rx))) in
      let k = collecting_sound x d (frame_mask f c i m) n s in
      pick_all (λ (h : Heard × List ℕ). Sound (left_by (h.0, over d.segments x.rx, h.1))) (complete d) _ _
      (λ t. told_stays_sound (RxStream (f.frame_number + 1)) (stream_setup d.segments) (record { radio = x.radio; rx = over d.segments x.rx; out = x.out })
      (setup_accepted d.segments n) refl (record { its_rx = k.its_rx; its_out = s.its_out; its_state = s.its_state })) (λ t. k)

  followed_sound : (expected : ℕ) → f.frame_number ≤ 32767 → Sound (left_by (followed x.radio expected f x.rx x.out))
  unfolding followed
  followed_sound expected n =
      pick_all (λ h. Sound (left_by h)) (ltb f.frame_number expected) _ _ (λ t. restarted_sound)
      (λ t. told_stays_sound (behind f) (stream_data f) x (data_accepted f ty.its_part ty.its_data i n)
      (pick_all (λ (k : State). sound_state k ≡ true) f.end_of_stream _ _ (λ t. refl) (λ t. refl)) s)

  received_sound : (k : Reception) → reception_of x.radio.state ≡ k → f.frame_number ≤ 32767 → Sound (left_by (received_in k x.radio f x.rx x.out))
  received_sound Nothing e n = restarted_sound
  received_sound (Acquiring mask) e n = acquired_sound mask (mask_in_lem x.radio mask s.its_state refl e)
  received_sound (Stream expected) e n = followed_sound expected n
  received_sound (Packet count) e n = restarted_sound

pub sound_stays_sound : SoundStaysSound
unfolding stream_heard ranged
sound_stays_sound x f ty s =
    each (λ h. Sound (left_by h)) x _ (λ a. s)
    (λ g. pick_all (λ h. Sound (left_by h)) (ltb 5 f.lich_idx) _ _ (λ t. s)
    (λ t. pick_all (λ h. Sound (left_by h)) (ltb 32767 f.frame_number) _ _ (λ u. s)
    (λ u. received_sound x f ty (ltb-false 5 _ t) s (reception_of x.radio.state) refl (ltb-false 32767 _ u))))

-- ---- by what is being received

pub received : (x : Box) (f : StreamFrame) {k : Reception} → Receiving x → InRange f → reception_of x.radio.state ≡ k → stream_at x f ≡ received_in k x.radio f x.rx x.out
received x f g i e = listened x f g ∙ sym (received_as x.radio f x.rx x.out i.its_index i.its_number refl e)

pub stream_frame_is_told : StreamFrameIsTold
stream_frame_is_told x f expected g i e n =
    subst (λ h. Told (left_by h) (behind f) (stream_data f))
    (forward x.radio f x.rx x.out expected (behind f) refl refl n ∙ sym (received x f g i (ap reception_of e)))
    (to_host_is_told (behind f) (stream_data f) x.rx x.out)

-- acquisition restarts
pub restarts : (x : Box) (f : StreamFrame) → Receiving x → InRange f → Restarts f x.radio.state
    → stream_at x f ≡ ((restarted x.radio f x.rx).0, (restarted x.radio f x.rx).1, x.out)
restarts x f g i h = go x.radio.state refl h
  where
    go : (s : State) → x.radio.state ≡ s → Restarts f s → stream_at x f ≡ ((restarted x.radio f x.rx).0, (restarted x.radio f x.rx).1, x.out)
    go Idle e idle = received x f g i (ap reception_of e)
    go (RxPacket count) e packet = received x f g i (ap reception_of e)
    go (RxStream expected) e (backward n) = received x f g i (ap reception_of e) ∙ sym (goes_Back x.radio f x.rx x.out expected refl n)
    go (RxAcquiringStream mask) e h = elim h [ ]
    go TxStream e h = elim h [ ]
    go TxStreamSentEndOfStream e h = elim h [ ]
    go TxPacket e h = elim h [ ]
    go TxEnding e h = elim h [ ]
    go (TxEndingAtTime end) e h = elim h [ ]

-- segments that stand over the store's start
at-start : (s rx : List ℕ) → length s ≡ 30 → take 30 (over s rx) ≡ s
at-start s rx n = take_at s (drop (length s) rx) 30 n

pub acquisition_restarts : AcquisitionRestarts
unfolding restarted
acquisition_restarts x f g ty i h =
    subst (λ k. Collected x (left_by k) (with_frame f new_collection)) (sym (restarts x f g i h))
    (record {
      its_collection = record { its_state = refl; its_segments = at-start _ x.rx (frame_thirty f new_collection i.its_index ty.its_part refl) };
      its_message = refl;
    })

pub backward_restarts : BackwardRestarts
backward_restarts x f expected g ty i e n = acquisition_restarts x f g ty i (subst (Restarts f) (sym e) (backward n))

-- ---- one segment more

module _ (x : Box) (c : LichCollection) (f : StreamFrame) (g : Receiving x) (i : InRange f) (h : Collects x c) where
  abbrev grown : LichCollection
  grown = with_frame f c

  abbrev with_told : Heard × List ℕ → Heard × List ℕ × List ℕ
  with_told k = (k.0, over grown.segments x.rx, k.1)

  pub acquires : stream_at x f ≡ with_told (acquired_with x.radio grown f.frame_number x.out)
  unfolding acquired
  acquires =
      received x f g i (ap reception_of h.its_state)
      ∙ ap (λ (s : List ℕ). let d = with_frame f (record { segments = s; mask = c.mask }) in let k = acquired_with x.radio d f.frame_number x.out in
      (k.0, over d.segments x.rx, k.1))
      h.its_segments

  its_30 : length c.segments ≡ 30
  its_30 = ap length (sym h.its_segments) ∙ length-take-le 30 x.rx (omega (arith, g.sound.its_rx))

  -- the LSF is not complete yet
  pub waits : complete grown ≡ false → stream_at x f ≡ with_told (collecting x.radio grown, x.out)
  unfolding acquired_with
  waits n = acquires ∙ ap with_told (sym (pick_no _ n refl))

  pub collected : Typed f → complete grown ≡ false → Collected x (after x f) grown
  collected ty n =
      subst (λ k. Collected x (left_by k) grown) (sym (waits n))
      (record { its_collection = record { its_state = refl; its_segments = at-start _ x.rx (frame_thirty f c i.its_index ty.its_part its_30) }; its_message = refl })

  -- it is
  pub told-whole : complete grown ≡ true → Told (after x f) (RxStream (f.frame_number + 1)) (stream_setup grown.segments)
  unfolding acquired_with
  told-whole e =
      let s = RxStream (f.frame_number + 1) in let b = stream_setup grown.segments in
      subst (λ k. Told (left_by k) s b) (sym (acquires ∙ ap with_told (sym (pick_yes _ e refl)))) (to_host_is_told s b (over grown.segments x.rx) x.out)

pub segment_is_kept : SegmentIsKept
segment_is_kept x c f g ty i h n = collected x c f g i h ty n

pub complete_is_told : CompleteIsTold
complete_is_told x c f g i h e = told-whole x c f g i h e
