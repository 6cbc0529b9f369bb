-- The promises of specs/Promises.antt are kept. Assumes nothing.
use Prim.Native.Nat.{ℕ, ◌+◌, ◌*◌, ◌≤◌, ◌<◌}
use mathlib.Core.Bool.{Bool, true, false}
use mathlib.Core.Logic.{◌≢◌}
use mathlib.Core.Path.{◌≡◌, refl, sym, ap, ◌∙◌}
use mathlib.Core.List.{List, [], ◌∷◌, ◌++◌, append-nil, append_assoc}
use native.Mathlib.Omega.{arith}
use lib.Dec.{leb}
use lib.ListN.{length}
use borrow.Author.Tests.{leb-true, leb-false}
use Rattle.choice.specs.Pick.{pick, and}
use Rattle.room.specs.Room.{placed}
use Rattle.room.proofs.Places.{placed-length}
use Rattle.protocol.specs.declared.StreamFrame.{StreamFrame}
use Rattle.crc.specs.Crc.{crc_of}
use Rattle.std.specs.Prelude.{Result, Ok, Err, Option, Some, None, ℕ}
use Rattle.streams.specs.declared.StreamPush.{StreamPush}
use Rattle.kiss_layout.specs.declared.PushError.{PushError}
use Rattle.streams.specs.declared.StreamPush.TheVariants.{Queued, LsfPending, Ignored}
use Rattle.kiss_layout.specs.declared.PushError.TheVariants.{MalformedKissFrame, WrongStore, OutOfBounds}
use Rattle.kiss_layout.specs.declared.KissError.{KissError}
use Rattle.kiss_layout.specs.Build.{stream_setup, stream_data, frame_of as built_frame}
use Rattle.streams.specs.declared.StreamQueue.{StreamQueue}
use Rattle.streams.specs.declared.StreamPushed.{StreamPushed}
use Rattle.room.specs.declared.LentError.{LentError}
use Rattle.protocol.specs.declared.lsf.LsfFrame.{LsfFrame}
use Rattle.protocol.specs.declared.ModulatorFrame.{ModulatorFrame}
use Rattle.protocol.specs.declared.ModulatorFrame.TheVariants.{Preamble, Lsf, Stream, Packet, EndOfTransmission}
use Rattle.streams.specs.declared.StreamRead.{StreamRead}
use Rattle.streams.specs.Layout.{FRAME, bytes_of, frame_of}
use Rattle.streams.specs.Queue.{LSF, IGNORED, DATA, sound_queue, empty_queue, frame_at, queued, unqueued, data_pushed, payload_pushed, decoded_of, pushed, lsf_read, frame_read, push_number, read_number}
use Rattle.streams.specs.Promises.{Box, push_answer, after_push, next_of, after_read, RefusedKeepsAll, IgnoredKeepsAll, of_streams, GivesStreams, Sound, NewIsSound, SoundStaysSound, frame_in, StoredIsRead, count, frames_from, waiting, added_by, given_by, Run, over, push, read, FirstInFirstOut, lsf_waiting, LsfWaitsUntilRead, FullStopsDataNotLsf, BuiltIsTaken}
use Rattle.streams.proofs.Stored.{bytes_length, frame_of_lem, payload_five, payload_sixteen}
use Rattle.streams.proofs.Cases.{next_below, curr_below, pushed-decoded, data_full, data_roomy, lsf_right, payload_short, payload_data, payload_lsf, read_frame}
use Rattle.streams.proofs.Outcomes.{payload_thirty, tag, quiet_tag, read_tag, silent_tag, Quiet, ignored, malformed, wrong_store, out_of_bounds, Push, kept, data_queued, lsf_taken, push_outcome, Silent, nothing, no_store, no_state, Read, silent, lsf_given, frame_given, read_outcome}
use Rattle.streams.proofs.Builders.{data_count, data_frame, lsf_decoded}
use Rattle.streams.proofs.Ring.{pending_sound, queued_sound, unqueued_sound, count_small, count_reaches, count-queued, count-unqueued, frames_same, frames_more, placed-here, placed_apart, placed_lsf, lsf_there, lsf_apart, empty_equal, queued_waits}

-- what a frame of the host is stored as
module _ (frame : List ℕ) where
  abbrev stored : List ℕ
  stored = bytes_of (frame_in frame)

  stored-length : length stored ≡ FRAME
  stored-length = bytes_length (frame_in frame) (payload_five (decoded_of frame).1 (payload_thirty frame)) (payload_sixteen (decoded_of frame).1 (payload_thirty frame))

  stored_read : frame_of stored ≡ frame_in frame
  stored_read = frame_of_lem (frame_in frame) (payload_five (decoded_of frame).1 (payload_thirty frame)) (payload_sixteen (decoded_of frame).1 (payload_thirty frame))

quiet_adds : {a : Result StreamPush PushError} → Quiet a → (f : StreamFrame) → added_by a f ≡ []
quiet_adds ignored f = refl
quiet_adds malformed f = refl
quiet_adds wrong_store f = refl
quiet_adds out_of_bounds f = refl

silent_gives : {a : Result (Option ModulatorFrame) LentError} → Silent a → given_by a ≡ []
silent_gives nothing = refl
silent_gives no_store = refl
silent_gives no_state = refl

-- the first of the frames that wait, and the others
first : (q : StreamQueue) (store : List ℕ) → sound_queue q ≡ true → empty_queue q ≡ false
    → frames_from (count q) q.curr store ≡ frame_at q.curr store ∷ frames_from (count (unqueued q)) (unqueued q).curr store
unfolding frames_from unqueued
first q store e m = ap (λ (n : ℕ). frames_from n q.curr store) (count-unqueued q e m)

-- ---- what a push leaves, whichever way it goes

module _ (x : Box) (frame : List ℕ) where
  abbrev Pushes : StreamPushed × List ℕ → Type 0
  Pushes r = Push x.queue (decoded_of frame).1 x.store r

  abbrev pushed_box : StreamPushed × List ℕ → Box
  pushed_box r = record { queue = r.0.queue; store = r.1 }

  outcome : Pushes (pushed x.queue frame x.store)
  outcome = push_outcome x.queue frame x.store

  -- the frame is stored at the next place, which the store has
  stored-fits : Sound x → FRAME * x.queue.next + length (stored frame) ≤ length x.store
  stored-fits s = omega (arith, stored-length frame, next_below x.queue s.its_state, s.its_store)

  lsf_fits : Sound x → LSF + length (decoded_of frame).1 ≤ length x.store
  lsf_fits s = omega (arith, payload_thirty frame, s.its_store)

  push_keeps : 2 ≤ tag (push_answer x frame) → after_push x frame ≡ x
  push_keeps = by outcome
    where
      by : {r : StreamPushed × List ℕ} → Pushes r → 2 ≤ tag r.0.answer → pushed_box r ≡ x
      by (kept w) f = refl
      by (data_queued l s e) f = absurd (omega arith)
      by (lsf_taken l s) f = absurd (omega arith)

  push_sound : Sound x → Sound (after_push x frame)
  push_sound s = by outcome
    where
      by : {r : StreamPushed × List ℕ} → Pushes r → Sound (pushed_box r)
      by (kept w) = s
      by (data_queued l t e) =
          record {
            its_store = placed-length (stored frame) x.store (FRAME * x.queue.next) (stored-fits s) ∙ s.its_store;
            its_state = queued_sound x.queue s.its_state;
          }
      by (lsf_taken l t) =
          record { its_store = placed-length (decoded_of frame).1 x.store LSF (lsf_fits s) ∙ s.its_store; its_state = pending_sound true x.queue s.its_state }

  pub push_waiting : Sound x → waiting (after_push x frame) ≡ waiting x ++ added_by (push_answer x frame) (frame_in frame)
  unfolding waiting queued count
  push_waiting s = by outcome
    where
      by : {r : StreamPushed × List ℕ} → Pushes r → waiting (pushed_box r) ≡ waiting x ++ added_by r.0.answer (frame_in frame)
      by (kept w) = sym (ap (λ (fs : List StreamFrame). waiting x ++ fs) (quiet_adds w (frame_in frame)) ∙ append-nil (waiting x))
      by (data_queued l t e) =
          let q = x.queue in let d = x.store in
          let small = next_below q t in
          ap (λ (n : ℕ). frames_from n q.curr (placed (stored frame) d (FRAME * q.next))) (count-queued q t e)
          ∙ frames_more d (placed (stored frame) d (FRAME * q.next)) q.next (frame_in frame)
          (placed-here (stored frame) d q.next small (stored-length frame) l ∙ stored_read frame) (placed_apart (stored frame) d q.next small (stored-length frame) l)
          (count q) q.curr (curr_below q t) (count_small q t e) (count_reaches q t e)
      by (lsf_taken l t) =
          let q = x.queue in let d = x.store in let p = (decoded_of frame).1 in
          frames_same d (placed p d LSF) (lsf_apart p d (payload_thirty frame) l) (count q) q.curr (curr_below q t) ∙ sym (append-nil (waiting x))

-- ---- and a read

module _ (x : Box) where
  abbrev read_box : StreamRead → Box
  read_box r = record { queue = r.queue; store = x.store }

  read_keeps : 2 ≤ read_tag (next_of x).answer → after_read x ≡ x
  unfolding lsf_read frame_read
  read_keeps = by (read_outcome x.queue x.store)
    where
      by : {r : StreamRead} → Read x.queue x.store r → 2 ≤ read_tag r.answer → read_box r ≡ x
      by (silent w) f = refl
      by (lsf_given s m p) f = absurd (omega arith)
      by (frame_given s m p) f = absurd (omega arith)

  read_sound : Sound x → Sound (after_read x)
  unfolding lsf_read frame_read
  read_sound s = by (read_outcome x.queue x.store)
    where
      by : {r : StreamRead} → Read x.queue x.store r → Sound (read_box r)
      by (silent w) = s
      by (lsf_given t m p) = record { its_store = s.its_store; its_state = pending_sound false x.queue s.its_state }
      by (frame_given t m p) = record { its_store = s.its_store; its_state = unqueued_sound x.queue s.its_state }

  pub read_waiting : waiting x ≡ given_by (next_of x).answer ++ waiting (after_read x)
  unfolding lsf_read frame_read waiting count
  read_waiting = by (read_outcome x.queue x.store)
    where
      by : {r : StreamRead} → Read x.queue x.store r → waiting x ≡ given_by r.answer ++ waiting (read_box r)
      by (silent w) = sym (ap (λ (fs : List StreamFrame). fs ++ waiting x) (silent_gives w))
      by (lsf_given t m p) = refl
      by (frame_given t m p) = first x.queue x.store t m

-- ---- refusals, and frames that are ignored

refused_quiet : (a : Result StreamPush PushError) → push_number a ≢ 0 → 2 ≤ tag a
refused_quiet (Ok Queued) f = absurd (f refl)
refused_quiet (Ok LsfPending) f = absurd (f refl)
refused_quiet (Ok Ignored) f = omega arith
refused_quiet (Err MalformedKissFrame) f = omega arith
refused_quiet (Err WrongStore) f = omega arith
refused_quiet (Err OutOfBounds) f = omega arith

refused_silent : (a : Result (Option ModulatorFrame) LentError) → read_number a ≢ 0 → 2 ≤ read_tag a
refused_silent (Ok given) f = absurd (f refl)
refused_silent (Err e) f = omega arith

pub refused_keeps_all : RefusedKeepsAll
refused_keeps_all x = (λ frame f. push_keeps x frame (refused_quiet (push_answer x frame) f), λ f. read_keeps x (refused_silent (next_of x).answer f))

pub ignored_keeps_all : IgnoredKeepsAll
ignored_keeps_all x = (λ frame e. push_keeps x frame (omega (arith, ap tag e)), λ e. read_keeps x (omega (arith, ap read_tag e)))

-- the frame in an answer, where there is one, is of a stream
abbrev streams_only : Result (Option ModulatorFrame) LentError → Bool
streams_only (Ok None) = true
streams_only (Ok (Some frame)) = of_streams frame
streams_only (Err e) = true

pub gives_streams : GivesStreams
unfolding lsf_read frame_read
gives_streams x frame e = sym (ap streams_only e) ∙ by (read_outcome x.queue x.store)
  where
    by : {r : StreamRead} → Read x.queue x.store r → streams_only r.answer ≡ true
    by (silent nothing) = refl
    by (silent no_store) = refl
    by (silent no_state) = refl
    by (lsf_given s m p) = refl
    by (frame_given s m p) = refl

-- ---- the bounds

pub new_is_sound : NewIsSound
unfolding sound_queue and pick
new_is_sound store l = record { its_store = l; its_state = refl }

pub sound_stays_sound : SoundStaysSound
sound_stays_sound x s = (λ frame. push_sound x frame s, read_sound x s)

-- ---- what is read is what was queued

run-waiting : {x y : Box} {added given : List StreamFrame} → Sound x → Run x added given y → waiting x ++ added ≡ given ++ waiting y
run-waiting {x} s over = append-nil (waiting x)
run-waiting {x} s (push {added} frame r) =
    sym (append_assoc (waiting x) (added_by (push_answer x frame) (frame_in frame)) added)
    ∙ ap (λ (fs : List StreamFrame). fs ++ added) (sym (push_waiting x frame s))
    ∙ run-waiting (push_sound x frame s) r
run-waiting {x} {y} s (read {added} {given} r) =
    let g = given_by (next_of x).answer in
    ap (λ (fs : List StreamFrame). fs ++ added) (read_waiting x)
    ∙ append_assoc g (waiting (after_read x)) added
    ∙ ap (λ (fs : List StreamFrame). g ++ fs) (run-waiting (read_sound x s) r)
    ∙ sym (append_assoc g given (waiting y))

pub first_in_first_out : FirstInFirstOut
unfolding waiting count frames_from pick
first_in_first_out store l y added given r = run-waiting (new_is_sound store l) r

pub stored_is_read : StoredIsRead
unfolding frame_read queued
stored_is_read x s m p frame = by (outcome x frame)
  where
    q : StreamQueue
    q = x.queue

    by : {r : StreamPushed × List ℕ} → Pushes x frame r → r.0.answer ≡ (Ok Queued)
        → (next_of (pushed_box x frame r)).answer ≡ Ok (Some (Stream (frame_in frame)))
    by (kept w) a = absurd (omega (arith, quiet_tag w, ap tag a))
    by (data_queued l t e) a =
        let d = placed (stored frame) x.store (FRAME * q.next) in
        let whole = placed-length (stored frame) x.store (FRAME * q.next) (stored-fits x frame s) ∙ l in
        let r = read_frame (queued q) d whole (queued_sound q t) (queued_waits q) p in
        let there : frame_at q.curr d ≡ frame_in frame =
        ap (λ (i : ℕ). frame_at i d) (sym (empty_equal q m)) ∙ placed-here (stored frame) x.store q.next (next_below q t) (stored-length frame) l ∙ stored_read frame in
        ap (λ (r : StreamRead). r.answer) (sym r) ∙ ap (λ (f : StreamFrame). Ok (Some (Stream f))) there
    by (lsf_taken l t) a = absurd (omega (arith, ap tag a))

-- ---- the LSF

module _ (x : Box) (frame : List ℕ) where
  lsf_comes : push_answer x frame ≡ (Ok LsfPending) → lsf_waiting (after_push x frame) ≡ Some (decoded_of frame).1
  unfolding lsf_waiting pick
  lsf_comes = by (outcome x frame)
    where
      by : {r : StreamPushed × List ℕ} → Pushes x frame r → r.0.answer ≡ (Ok LsfPending) → lsf_waiting (pushed_box x frame r) ≡ Some (decoded_of frame).1
      by (kept w) a = absurd (omega (arith, quiet_tag w, ap tag a))
      by (data_queued l t e) a = absurd (omega (arith, ap tag a))
      by (lsf_taken l t) a = ap Some (lsf_there (decoded_of frame).1 x.store (payload_thirty frame) l)

  lsf_stays : push_answer x frame ≢ (Ok LsfPending) → lsf_waiting (after_push x frame) ≡ lsf_waiting x
  unfolding lsf_waiting queued
  lsf_stays = by (outcome x frame)
    where
      by : {r : StreamPushed × List ℕ} → Pushes x frame r → r.0.answer ≢ (Ok LsfPending) → lsf_waiting (pushed_box x frame r) ≡ lsf_waiting x
      by (kept w) f = refl
      by (data_queued l t e) f =
          ap (λ (b : List ℕ). pick x.queue.pending (Some b) None) (placed_lsf (stored frame) x.store x.queue.next (next_below x.queue t) (stored-length frame) l)
      by (lsf_taken l t) f = absurd (f refl)

-- the LSF in an answer
lsf_bytes : Result (Option ModulatorFrame) LentError → Option (List ℕ)
lsf_bytes (Ok (Some (Lsf lsf))) = Some lsf.0
lsf_bytes (Ok (Some (Stream f))) = None
lsf_bytes (Ok (Some (Preamble delay))) = None
lsf_bytes (Ok (Some (Packet f))) = None
lsf_bytes (Ok (Some EndOfTransmission)) = None
lsf_bytes (Ok None) = None
lsf_bytes (Err e) = None

module _ (x : Box) where
  lsf_goes : (lsf : LsfFrame) → (next_of x).answer ≡ Ok (Some (Lsf lsf)) → (lsf_waiting x ≡ Some lsf.0) × (lsf_waiting (after_read x) ≡ None) × (empty_queue x.queue ≡ false)
  unfolding lsf_waiting lsf_read frame_read pick lsf_bytes
  lsf_goes lsf = by (read_outcome x.queue x.store)
    where
      by : {r : StreamRead} → Read x.queue x.store r → r.answer ≡ Ok (Some (Lsf lsf)) → (lsf_waiting x ≡ Some lsf.0) × (lsf_waiting (read_box x r) ≡ None) × (empty_queue x.queue ≡ false)
      by (silent w) a = absurd (omega (arith, silent_tag w, ap read_tag a))
      by (lsf_given t m p) a = (rw p (ap lsf_bytes a), refl, m)
      by (frame_given t m p) a = absurd (omega (arith, ap read_tag a))

  lsf_left_lem : ((lsf : LsfFrame) → (next_of x).answer ≢ Ok (Some (Lsf lsf))) → lsf_waiting (after_read x) ≡ lsf_waiting x
  unfolding lsf_waiting lsf_read frame_read unqueued
  lsf_left_lem = by (read_outcome x.queue x.store)
    where
      by : {r : StreamRead} → Read x.queue x.store r → ((lsf : LsfFrame) → r.answer ≢ Ok (Some (Lsf lsf))) → lsf_waiting (read_box x r) ≡ lsf_waiting x
      by (silent w) f = refl
      by (lsf_given t m p) f = absurd (f _ refl)
      by (frame_given t m p) f = refl

pub lsf_waits_until_read : LsfWaitsUntilRead
lsf_waits_until_read x s = (lsf_comes x, lsf_stays x, lsf_goes x, lsf_left_lem x)

-- past the tests, the answer to a frame that decodes to n bytes
module _ (x : Box) (s : Sound x) (frame : List ℕ) {n : ℕ} (e : (decoded_of frame).0 ≡ Ok n) where
  answer_by : {r : StreamPushed × List ℕ} → r ≡ payload_pushed n x.queue (decoded_of frame).1 x.store → push_answer x frame ≡ r.0.answer
  answer_by c =
      ap (λ (r : StreamPushed × List ℕ). r.0.answer) (sym (c ∙ pushed-decoded x.queue frame x.store s.its_store s.its_state (decoded_of frame).1 refl (Ok n) e))

  answer_data : IGNORED < n → n ≤ DATA → {r : StreamPushed × List ℕ} → r ≡ data_pushed x.queue (decoded_of frame).1 x.store → push_answer x frame ≡ r.0.answer
  answer_data h k c = answer_by (c ∙ payload_data n x.queue (decoded_of frame).1 x.store h k)

  answer_lsf : DATA < n → crc_of (decoded_of frame).1 ≡ 0 → push_answer x frame ≡ (Ok LsfPending)
  answer_lsf h c = answer_by (lsf_right x.queue (decoded_of frame).1 x.store refl c ∙ payload_lsf n x.queue (decoded_of frame).1 x.store h)

pub full_stops_data_not_lsf : FullStopsDataNotLsf
full_stops_data_not_lsf x s f frame n e = (λ h. by h (leb n IGNORED) refl, answer_lsf x s frame e)
  where
    by : n ≤ DATA → (t : Bool) → leb n IGNORED ≡ t → push_answer x frame ≡ (Ok Ignored)
    by h true k = answer_by x s frame e (payload_short n x.queue (decoded_of frame).1 x.store (leb-true n IGNORED k))
    by h false k = answer_data x s frame e (leb-false n IGNORED k) h (data_full x.queue (decoded_of frame).1 x.store f)

-- ---- what a builder wrote

pub built_is_taken : BuiltIsTaken
built_is_taken x s = (
  λ f ok room.
      let b = built_frame (stream_data f) in
      (answer_data x s b (data_count f ok) (omega arith) (omega arith) (data_roomy x.queue (decoded_of b).1 x.store room), data_frame f ok),
  λ lsf l c.
      let b = built_frame (stream_setup lsf) in let d = lsf_decoded lsf l in
      (answer_lsf x s b (ap (λ (r : Result ℕ KissError × List ℕ). r.0) d) (omega arith) (ap (λ (r : Result ℕ KissError × List ℕ). crc_of r.1) d ∙ c), ap (λ (r : Result ℕ KissError × List ℕ). r.1) d),
)
