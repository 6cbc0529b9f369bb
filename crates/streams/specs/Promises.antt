-- What is promised of the stream queue over several calls, from document 01. Each is proved in proofs/Kept.antt. Assumes nothing.
use Rattle.std.specs.Prelude.{ℕ, zero, suc, ◌+◌, ◌-◌, ◌%◌, ◌≤◌, ◌<◌, Bool, true, false, ◌≢◌, ◌≡◌, List, [], ◌∷◌, ◌++◌, length, Result, Ok, Err, Option, Some, None}
use Rattle.choice.specs.Pick.{pick}
use Rattle.crc.specs.Crc.{crc_of}
use Rattle.room.specs.declared.LentError.{LentError}
use Rattle.protocol.specs.declared.lsf.LsfFrame.{LsfFrame}
use Rattle.protocol.specs.declared.StreamFrame.{StreamFrame}
use Rattle.protocol.specs.declared.ModulatorFrame.{ModulatorFrame}
use Rattle.protocol.specs.declared.ModulatorFrame.TheVariants.{Preamble, Lsf, Stream, Packet, EndOfTransmission}
use Rattle.protocol.specs.Lsf.{part}
use Rattle.streams.specs.declared.StreamPush.{StreamPush}
use Rattle.kiss_layout.specs.declared.PushError.{PushError}
use Rattle.streams.specs.declared.StreamPush.TheVariants.{Ignored, Queued, LsfPending}
use Rattle.kiss_layout.specs.declared.PushError.TheVariants.{MalformedKissFrame, WrongStore, OutOfBounds}
use Rattle.kiss_layout.specs.Stream.{stream_of}
use Rattle.kiss_layout.specs.Build.{stream_setup, stream_data, frame_of as built_frame}
use Rattle.kiss_layout.specs.Promises.{Accepted}
use Rattle.streams.specs.declared.StreamQueue.{StreamQueue}
use Rattle.streams.specs.declared.StreamRead.{StreamRead}
use Rattle.streams.specs.Queue.{PLACES, LSF, STORE, DATA, new_queue, sound_queue, empty_queue, frame_at, after, decoded_of, pushed, read_next, push_number, read_number}

-- a record and its store, as the last call left them
pub record Box : Type 0 where
  pub queue : StreamQueue
  pub store : List ℕ

abbrev pub new_box : List ℕ → Box
new_box store = record { queue = new_queue; store = store }

abbrev pub push_answer : Box → List ℕ → Result StreamPush PushError
push_answer x frame = (pushed x.queue frame x.store).0.answer

abbrev pub after_push : Box → List ℕ → Box
after_push x frame = record { queue = (pushed x.queue frame x.store).0.queue; store = (pushed x.queue frame x.store).1 }

abbrev pub next_of : Box → StreamRead
next_of x = read_next x.queue x.store

abbrev pub after_read : Box → Box
after_read x = record { queue = (next_of x).queue; store = x.store }

-- with any answer but 0 the record and all bytes of the store are as they were
abbrev pub RefusedKeepsAll : Type 0
RefusedKeepsAll =
    (x : Box) → ((frame : List ℕ) → push_number (push_answer x frame) ≢ 0 → after_push x frame ≡ x) × (read_number (next_of x).answer ≢ 0 → after_read x ≡ x)

-- an ignored frame leaves no trace, and a read that answers nothing neither
abbrev pub IgnoredKeepsAll : Type 0
IgnoredKeepsAll = (x : Box) → ((frame : List ℕ) → push_answer x frame ≡ Ok Ignored → after_push x frame ≡ x) × ((next_of x).answer ≡ Ok None → after_read x ≡ x)

-- what a stream transmission consists of: an LSF and stream frames
abbrev pub of_streams : ModulatorFrame → Bool
of_streams (Preamble delay) = false
of_streams (Lsf lsf) = true
of_streams (Stream frame) = true
of_streams (Packet frame) = false
of_streams EndOfTransmission = false

-- a read gives no other frame
abbrev pub GivesStreams : Type 0
GivesStreams = (x : Box) (frame : ModulatorFrame) → (next_of x).answer ≡ Ok (Some frame) → of_streams frame ≡ true

-- ---- the bounds

-- the store has its length and the record is within its bounds
pub record Sound (x : Box) : Type 0 where
  pub its_store : length x.store ≡ STORE
  pub its_state : sound_queue x.queue ≡ true

abbrev pub NewIsSound : Type 0
NewIsSound = (store : List ℕ) → length store ≡ STORE → Sound (new_box store)

-- a sound queue stays sound
abbrev pub SoundStaysSound : Type 0
SoundStaysSound = (x : Box) → Sound x → ((frame : List ℕ) → Sound (after_push x frame)) × Sound (after_read x)

-- ---- what is read is what was queued

-- what a frame of the host stands for, as stream data
abbrev pub frame_in : List ℕ → StreamFrame
frame_in frame = stream_of (decoded_of frame).1

-- a frame that was queued into an otherwise empty queue, with no LSF before it, is the one that the next read gives, field for field
abbrev pub StoredIsRead : Type 0
StoredIsRead =
    (x : Box) → Sound x → empty_queue x.queue ≡ true → x.queue.pending ≡ false
    → (frame : List ℕ) → push_answer x frame ≡ Ok Queued → (next_of (after_push x frame)).answer ≡ Ok (Some (Stream (frame_in frame)))

-- how many frames wait, and these, first to last
unfoldable pub count : StreamQueue → ℕ
count q = pick q.full PLACES ((q.next + PLACES - q.curr) % PLACES)

unfoldable pub frames_from : ℕ → ℕ → List ℕ → List StreamFrame
frames_from zero place store = []
frames_from (suc n) place store = frame_at place store ∷ frames_from n (after place) store

unfoldable pub waiting : Box → List StreamFrame
waiting x = frames_from (count x.queue) x.queue.curr x.store

-- the frames that a push adds, and those that a read gives: one or none
abbrev pub added_by : Result StreamPush PushError → StreamFrame → List StreamFrame
added_by (Ok Queued) f = f ∷ []
added_by (Ok LsfPending) f = []
added_by (Ok Ignored) f = []
added_by (Err MalformedKissFrame) f = []
added_by (Err WrongStore) f = []
added_by (Err OutOfBounds) f = []

abbrev pub given_by : Result (Option ModulatorFrame) LentError → List StreamFrame
given_by (Ok None) = []
given_by (Ok (Some (Preamble delay))) = []
given_by (Ok (Some (Lsf lsf))) = []
given_by (Ok (Some (Stream f))) = f ∷ []
given_by (Ok (Some (Packet f))) = []
given_by (Ok (Some EndOfTransmission)) = []
given_by (Err e) = []

-- any calls, with the frames that they added and the frames that they gave
pub data Run : Box → List StreamFrame → List StreamFrame → Box → Type 0 where
  over : {x : Box} → Run x [] [] x
  push : {x y : Box} {added given : List StreamFrame} (frame : List ℕ) → Run (after_push x frame) added given y
      → Run x (added_by (push_answer x frame) (frame_in frame) ++ added) given y
  read : {x y : Box} {added given : List StreamFrame} → Run (after_read x) added given y → Run x added (given_by (next_of x).answer ++ given) y

-- over any calls from a new queue, whatever stood in its store, the frames read are a beginning of the frames queued, in order, and the rest waits
abbrev pub FirstInFirstOut : Type 0
FirstInFirstOut =
    (store : List ℕ) → length store ≡ STORE → (y : Box) (added given : List StreamFrame) → Run (new_box store) added given y → added ≡ given ++ waiting y

-- ---- the LSF

-- the LSF that waits
unfoldable pub lsf_waiting : Box → Option (List ℕ)
lsf_waiting x = pick x.queue.pending (Some (part LSF 30 x.store)) None

-- an LSF that was taken waits in place of one that waited before; other frames leave it; it is read once, and only while a frame waits
abbrev pub LsfWaitsUntilRead : Type 0
LsfWaitsUntilRead =
    (x : Box) → Sound x → ((frame : List ℕ) → push_answer x frame ≡ Ok LsfPending → lsf_waiting (after_push x frame) ≡ Some (decoded_of frame).1)
    × ((frame : List ℕ) → push_answer x frame ≢ Ok LsfPending → lsf_waiting (after_push x frame) ≡ lsf_waiting x)
    × ((lsf : LsfFrame) → (next_of x).answer ≡ Ok (Some (Lsf lsf)) → (lsf_waiting x ≡ Some lsf.0) × (lsf_waiting (after_read x) ≡ None) × (empty_queue x.queue ≡ false))
    × (((lsf : LsfFrame) → (next_of x).answer ≢ Ok (Some (Lsf lsf))) → lsf_waiting (after_read x) ≡ lsf_waiting x)

-- a full queue stops data, not an LSF
abbrev pub FullStopsDataNotLsf : Type 0
FullStopsDataNotLsf =
    (x : Box) → Sound x → x.queue.full ≡ true → (frame : List ℕ) (n : ℕ) → (decoded_of frame).0 ≡ Ok n
    → (n ≤ DATA → push_answer x frame ≡ Ok Ignored) × (DATA < n → crc_of (decoded_of frame).1 ≡ 0 → push_answer x frame ≡ Ok LsfPending)

-- ---- what a builder wrote

-- a stream frame that a builder wrote from accepted arguments is queued as that very frame, where there is room; an LSF of 30 bytes whose CRC is 0 waits as that very LSF
abbrev pub BuiltIsTaken : Type 0
BuiltIsTaken =
    (x : Box) → Sound x
    → ((f : StreamFrame) → Accepted (stream_data f) → x.queue.full ≡ false
    → (push_answer x (built_frame (stream_data f)) ≡ Ok Queued) × (frame_in (built_frame (stream_data f)) ≡ f))
    × ((lsf : List ℕ) → length lsf ≡ 30 → crc_of lsf ≡ 0
    → (push_answer x (built_frame (stream_setup lsf)) ≡ Ok LsfPending) × ((decoded_of (built_frame (stream_setup lsf))).1 ≡ lsf))
