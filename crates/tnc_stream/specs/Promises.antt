-- What is promised of stream frames from the air, from document 01. Each is proved in proofs/Kept.antt, the last in proofs/Gathered.antt. Assumes nothing.
use Rattle.std.specs.Prelude.{ℕ, ◌+◌, ◌≤◌, ◌<◌, Bool, true, false, ◌≢◌, ◌≡◌, List, [], ◌∷◌, ◌++◌, eqb, length, take, Ok, Err}
use Rattle.choice.specs.Pick.{pick}
use Rattle.crc.specs.Crc.{crc_of}
use Rattle.protocol.specs.declared.StreamFrame.{StreamFrame}
use Rattle.lich.specs.declared.LichCollection.{LichCollection}
use Rattle.lich.specs.Lich.{segment_of, new_collection}
use Rattle.kiss_layout.specs.Build.{stream_setup, stream_data}
use Rattle.outgoing.specs.Message.{left}
use Rattle.state.specs.declared.State.{State}
use Rattle.state.specs.declared.State.TheVariants.{Idle, RxAcquiringStream, RxStream, RxPacket}
use Rattle.state.specs.State.{transmits}
use Rattle.radio.specs.declared.AirError.TheVariants.{OutOfRange}
use Rattle.radio.specs.declared.Heard.{Heard}
use Rattle.radio.specs.Radio.{answered, air_number}
use Rattle.radio.specs.Box.{Box, left_by, Sound, Receiving}
use Rattle.radio.specs.Promises.{Told}
use Rattle.tnc_stream.specs.Restarted.{with_frame}
use Rattle.tnc_stream.specs.Acquired.{complete}
use Rattle.tnc_stream.specs.Followed.{behind}
use Rattle.tnc_stream.specs.Stream.{stream_heard}

abbrev pub stream_at : Box → StreamFrame → Heard × List ℕ × List ℕ
stream_at x f = stream_heard x.radio f x.rx x.out

abbrev pub after : Box → StreamFrame → Box
after x f = left_by (stream_at x f)

-- the arrays of a frame have their types' lengths
pub record Typed (f : StreamFrame) : Type 0 where
  pub its_part : length f.lich_part ≡ 5
  pub its_data : length f.stream_data ≡ 16

-- LICH index and frame number are in range
pub record InRange (f : StreamFrame) : Type 0 where
  pub its_index : f.lich_idx ≤ 5
  pub its_number : f.frame_number ≤ 32767

-- with any answer but 0 nothing has changed
abbrev pub RefusedKeepsAll : Type 0
RefusedKeepsAll = (x : Box) (f : StreamFrame) → air_number (stream_at x f).0.answer ≢ 0 → after x f ≡ x

-- while PTT is on every frame, one out of range too, is answered 0 and changes nothing
abbrev pub SendingHearsNothing : Type 0
SendingHearsNothing = (x : Box) (f : StreamFrame) → Sound x → transmits x.radio.state ≡ true → stream_at x f ≡ (answered (Ok tt) x.radio, x.rx, x.out)

-- a frame out of range is answered 6, whatever is being received
abbrev pub IndexOver5IsRefused : Type 0
IndexOver5IsRefused = (x : Box) (f : StreamFrame) → Receiving x → 5 < f.lich_idx → stream_at x f ≡ (answered (Err OutOfRange) x.radio, x.rx, x.out)

abbrev pub NumberOver32767IsRefused : Type 0
NumberOver32767IsRefused = (x : Box) (f : StreamFrame) → Receiving x → 32767 < f.frame_number → stream_at x f ≡ (answered (Err OutOfRange) x.radio, x.rx, x.out)

-- a sound box stays sound
abbrev pub SoundStaysSound : Type 0
SoundStaysSound = (x : Box) (f : StreamFrame) → Typed f → Sound x → Sound (after x f)

-- in a stream, a frame numbered as expected or above is what the host has to read; behind it the next number is expected, or nothing if it is the end
abbrev pub StreamFrameIsTold : Type 0
StreamFrameIsTold =
    (x : Box) (f : StreamFrame) (expected : ℕ) → Receiving x → InRange f → x.radio.state ≡ RxStream expected → expected ≤ f.frame_number
    → Told (after x f) (behind f) (stream_data f)

-- ---- LICH acquisition

-- a box that collects segments
pub record Collects (x : Box) (c : LichCollection) : Type 0 where
  pub its_state : x.radio.state ≡ RxAcquiringStream c.mask
  pub its_segments : take 30 x.rx ≡ c.segments

-- a frame restarts acquisition where nothing or a packet is being received, and in a stream if it is numbered below the expected one
pub data Restarts (f : StreamFrame) : State → Type 0 where
  idle : Restarts f Idle
  packet : {count : ℕ} → Restarts f (RxPacket count)
  backward : {expected : ℕ} → f.frame_number < expected → Restarts f (RxStream expected)

-- a box whose collection is this one, and whose message that waits is as it was
pub record Collected (x y : Box) (c : LichCollection) : Type 0 where
  pub its_collection : Collects y c
  pub its_message : left y.radio.outgoing y.out ≡ left x.radio.outgoing x.out

-- then its segment is all that has been heard
abbrev pub AcquisitionRestarts : Type 0
AcquisitionRestarts = (x : Box) (f : StreamFrame) → Receiving x → Typed f → InRange f → Restarts f x.radio.state → Collected x (after x f) (with_frame f new_collection)

-- a stream frame numbered below the expected one restarts LICH acquisition
abbrev pub BackwardRestarts : Type 0
BackwardRestarts =
    (x : Box) (f : StreamFrame) (expected : ℕ) → Receiving x → Typed f → InRange f → x.radio.state ≡ RxStream expected → f.frame_number < expected
    → Collected x (after x f) (with_frame f new_collection)

-- a segment more is kept until all six have been heard and their CRC is 0
abbrev pub SegmentIsKept : Type 0
SegmentIsKept =
    (x : Box) (c : LichCollection) (f : StreamFrame) → Receiving x → Typed f → InRange f → Collects x c → complete (with_frame f c) ≡ false
    → Collected x (after x f) (with_frame f c)

-- then they are what the host has to read, as a setup frame, and the next number is expected
abbrev pub CompleteIsTold : Type 0
CompleteIsTold =
    (x : Box) (c : LichCollection) (f : StreamFrame) → Receiving x → InRange f → Collects x c → complete (with_frame f c) ≡ true
    → Told (after x f) (RxStream (f.frame_number + 1)) (stream_setup (with_frame f c).segments)

-- a stream frame in range that brings the segment of an LSF at its index
pub record Brings (lsf : List ℕ) : Type 0 where
  pub frame : StreamFrame
  pub typed : Typed frame
  pub in_range : InRange frame
  pub its_own : frame.lich_part ≡ segment_of frame.lich_idx lsf

abbrev pub after_all : {lsf : List ℕ} → Box → List (Brings lsf) → Box
after_all x [] = x
after_all x (b ∷ bs) = after_all (after x b.frame) bs

-- whether one of them brings segment i
abbrev pub brought : {lsf : List ℕ} → ℕ → List (Brings lsf) → Bool
brought i [] = false
brought i (b ∷ bs) = pick (eqb i b.frame.lich_idx) true (brought i bs)

-- stream frames that bring the segments of an LSF whose CRC is 0, in any order and however often: the one with which all six have come leaves the host to read that LSF, as a
-- setup frame, and the number after its own is expected. The first of them restarts acquisition; what had been collected before might be another LSF's.
abbrev pub SixSegmentsGiveTheLsf : Type 0
SixSegmentsGiveTheLsf =
    (lsf : List ℕ) (x : Box) (first : Brings lsf) (more : List (Brings lsf)) (last : Brings lsf) → length lsf ≡ 30 → crc_of lsf ≡ 0 → Receiving x
    → Restarts first.frame x.radio.state
    → brought last.frame.lich_idx (first ∷ more) ≡ false
    → ((i : ℕ) → i < 6 → brought i ((first ∷ more) ++ (last ∷ [])) ≡ true)
    → Told (after (after_all x (first ∷ more)) last.frame) (RxStream (last.frame.frame_number + 1)) (stream_setup lsf)
