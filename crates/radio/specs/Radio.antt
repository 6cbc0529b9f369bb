-- The radio's record and what every call with a frame from the air has in common, from document 01's "From the air", "Answer numbers" and "Bounds for 8". Assumes nothing.
use Rattle.std.specs.Prelude.{ℕ, Bool, true, false, not, List, eqb, length, Result, Ok, Err}
use Rattle.choice.specs.Pick.{pick, and}
use Rattle.room.specs.Room.{over}
use Rattle.kiss_layout.specs.Build.{Building, frame_of}
use Rattle.outgoing.specs.Message.{sound_message}
use Rattle.state.specs.declared.State.{State}
use Rattle.state.specs.State.{transmits, sound_state}
use Rattle.radio.specs.declared.Radio.{Radio}
use Rattle.radio.specs.declared.AirError.{AirError}
use Rattle.radio.specs.declared.AirError.TheVariants.{WrongStore, OutOfBounds, OutOfRange}
use Rattle.radio.specs.declared.Heard.{Heard}

-- the lengths of the two stores: an LSF of 30 bytes and a packet of 825; the longest message
abbrev pub RX : ℕ
RX = 855

abbrev pub MESSAGE : ℕ
MESSAGE = 1713

unfoldable pub sound_radio : Radio → Bool
sound_radio r = and (sound_state r.state) (sound_message r.outgoing)

abbrev pub answered : Result (Unit {0}) AirError → Radio → Heard
answered a r = record { answer = a; radio = r }

-- another state, and a message that waits goes on waiting
abbrev pub turned : State → Radio → Heard
turned s r = answered (Ok tt) (record { state = s; outgoing = r.outgoing })

-- a new message to the host replaces one not fully read
abbrev pub to_host : State → Building → List ℕ → Heard × List ℕ
to_host s b out = (answered (Ok tt) (record { state = s; outgoing = record { len = length (frame_of b); read = 0 } }), over (frame_of b) out)

-- whether a frame is listened to. The order is 7 for the stores, 8 for the record, and then, while PTT is on, it is not.
unfoldable pub hears_by : Radio → ℕ → ℕ → Result Bool AirError
hears_by r rx out =
    pick (eqb rx RX)
    (pick (eqb out MESSAGE) (pick (sound_radio r) (Ok (not (transmits r.state))) (Err OutOfBounds)) (Err WrongStore))
    (Err WrongStore)

-- of the stores only their lengths count
abbrev pub hears_of : Radio → List ℕ → List ℕ → Result Bool AirError
hears_of r rx out = hears_by r (length rx) (length out)

-- a frame that is not listened to is answered 0
abbrev pub listening : Result Bool AirError → Radio → List ℕ → List ℕ → Heard × List ℕ × List ℕ → Heard × List ℕ × List ℕ
listening (Ok true) r rx out h = h
listening (Ok false) r rx out h = (answered (Ok tt) r, rx, out)
listening (Err e) r rx out h = (answered (Err e) r, rx, out)

-- what a frame does, unless the call is refused or, since PTT is on, the frame is ignored: then nothing changes
unfoldable pub unless_sending : Radio → List ℕ → List ℕ → Heard × List ℕ × List ℕ → Heard × List ℕ × List ℕ
unless_sending r rx out h = listening (hears_of r rx out) r rx out h

-- document 01's numbers for what is refused, and for the answers
abbrev pub air_error_number : AirError → ℕ
air_error_number OutOfRange = 6
air_error_number WrongStore = 7
air_error_number OutOfBounds = 8

abbrev pub air_number : Result (Unit {0}) AirError → ℕ
air_number (Ok done) = 0
air_number (Err e) = air_error_number e
