-- What is promised of frames from the air, from document 01. Each is proved in proofs/Kept.antt, the last in proofs/Rebuilt.antt. Assumes nothing.
use Prim.{Unit}
use Rattle.std.specs.Prelude.{ℕ, ◌+◌, ◌≤◌, true, ◌≢◌, ◌≡◌, List, [], ◌∷◌, ◌++◌, length, take, Ok}
use Rattle.protocol.specs.Lsf.{field_of, mode_bits}
use Rattle.protocol.specs.Kinds.{mode_of}
use Rattle.protocol.specs.declared.PacketFrame.{PacketFrame}
use Rattle.protocol.specs.declared.PacketFrameCounter.TheVariants.{Frame as Counted, FinalFrame as Final}
use Rattle.protocol.specs.declared.lsf.Mode.TheVariants.{Packet, Stream}
use Rattle.kiss_layout.specs.Build.{full_packet, stream_setup, frame_of}
use Rattle.outgoing.specs.Message.{left}
use Rattle.state.specs.declared.State.TheVariants.{Idle, RxStream, RxPacket}
use Rattle.state.specs.State.{transmits}
use Rattle.radio.specs.declared.Heard.{Heard}
use Rattle.radio.specs.Radio.{answered, air_number}
use Rattle.radio.specs.Box.{Box, left_by, Sound, Receiving}
use Rattle.air_lsf.specs.Begun.{lsf_heard}
use Rattle.tnc_air.specs.Heard.{packet_heard}

abbrev pub lsf_at : Box → List ℕ → Heard × List ℕ × List ℕ
lsf_at x lsf = lsf_heard x.radio lsf x.rx x.out

-- a frame from the air, and what it does
pub data AirFrame : Type 0 where
  lsf : (bytes : List ℕ) → AirFrame
  packet : (frame : PacketFrame) → AirFrame

abbrev pub heard_at : Box → AirFrame → Heard × List ℕ × List ℕ
heard_at x (lsf bytes) = lsf_at x bytes
heard_at x (packet frame) = packet_heard x.radio frame x.rx x.out

-- the arrays of a frame have their types' lengths
abbrev pub Typed : AirFrame → Type 0
Typed (lsf bytes) = length bytes ≡ 30
Typed (packet frame) = length frame.payload ≡ 25

-- with any answer but 0 nothing has changed
abbrev pub RefusedKeepsAll : Type 0
RefusedKeepsAll = (x : Box) (f : AirFrame) → air_number (heard_at x f).0.answer ≢ 0 → left_by (heard_at x f) ≡ x

-- while PTT is on every frame, one out of range too, is answered 0 and changes nothing
abbrev pub SendingHearsNothing : Type 0
SendingHearsNothing = (x : Box) (f : AirFrame) → Sound x → transmits x.radio.state ≡ true → heard_at x f ≡ (answered (Ok tt) x.radio, x.rx, x.out)

-- a sound box stays sound
abbrev pub SoundStaysSound : Type 0
SoundStaysSound = (x : Box) (f : AirFrame) → Typed f → Sound x → Sound (left_by (heard_at x f))

-- whatever went before, after a packet's LSF no frame of it has come, and the message that waits is as it was
pub record PacketBegins (x y : Box) (lsf : List ℕ) : Type 0 where
  pub its_state : y.radio.state ≡ RxPacket 0
  pub its_message : left y.radio.outgoing y.out ≡ left x.radio.outgoing x.out

abbrev pub PacketLsfClears : Type 0
PacketLsfClears = (x : Box) (lsf : List ℕ) → Receiving x → length lsf ≡ 30 → mode_of (field_of mode_bits lsf) ≡ Packet → PacketBegins x (left_by (lsf_at x lsf)) lsf

-- whatever went before, after a stream's LSF any number may come first, and what the host has to read is that LSF, as a setup frame
pub record StreamBegins (y : Box) (lsf : List ℕ) : Type 0 where
  pub its_state : y.radio.state ≡ RxStream 0
  pub its_message : left y.radio.outgoing y.out ≡ frame_of (stream_setup lsf)

abbrev pub StreamLsfIsTold : Type 0
StreamLsfIsTold = (x : Box) (lsf : List ℕ) → Receiving x → length lsf ≡ 30 → mode_of (field_of mode_bits lsf) ≡ Stream → StreamBegins (left_by (lsf_at x lsf)) lsf

-- ---- a packet is rebuilt

abbrev pub after : Box → AirFrame → Box
after x f = left_by (heard_at x f)

unfoldable pub after_all : Box → List AirFrame → Box
after_all x [] = x
after_all x (f ∷ fs) = after_all (after x f) fs

-- frames that are not the last, numbered from an index on
unfoldable pub numbered : ℕ → List (List ℕ) → List AirFrame
numbered index [] = []
numbered index (p ∷ ps) = packet (record { payload = p; counter = Counted index }) ∷ numbered (index + 1) ps

abbrev pub last_of : ℕ → List ℕ → AirFrame
last_of len p = packet (record { payload = p; counter = Final len })

unfoldable pub joined : List (List ℕ) → List ℕ
joined [] = []
joined (p ∷ ps) = p ++ joined ps

unfoldable pub All25 : List (List ℕ) → Type 0
All25 [] = Unit {0}
All25 (p ∷ ps) = (length p ≡ 25) × All25 ps

pub record ToldPacket (y : Box) (bytes content : List ℕ) : Type 0 where
  pub its_state : y.radio.state ≡ Idle
  pub its_message : left y.radio.outgoing y.out ≡ frame_of (full_packet bytes content)

-- whatever went before: a packet's LSF, at most 32 frames from index 0 on and a last one leave the host to read that LSF and the frames' bytes, joined, in one frame
abbrev pub PacketIsRebuilt : Type 0
PacketIsRebuilt =
    (x : Box) (bytes : List ℕ) (ps : List (List ℕ)) (p : List ℕ) (len : ℕ) → Receiving x → length bytes ≡ 30 → mode_of (field_of mode_bits bytes) ≡ Packet
    → length ps ≤ 32 → All25 ps → length p ≡ 25 → len ≤ 25
    → ToldPacket (after (after_all (after x (lsf bytes)) (numbered 0 ps)) (last_of len p)) bytes (joined ps ++ take len p)
