-- The TNC's call with a frame from the air: it tests its stores (7) and all of the record (8), and then does what the radio does with a frame of that kind, from
-- document 01's "From the air" and "Answer numbers". Assumes nothing.
use Rattle.std.specs.Prelude.{ℕ, List, eqb, length, Result, Ok, Err}
use Rattle.choice.specs.Pick.{pick}
use Rattle.protocol.specs.declared.Frame.{Frame}
use Rattle.protocol.specs.declared.Frame.TheVariants.{Lsf, Stream, Packet}
use Rattle.air_lsf.specs.Begun.{lsf_heard}
use Rattle.tnc_air.specs.Heard.{packet_heard}
use Rattle.tnc_stream.specs.Stream.{stream_heard}
use Rattle.radio.specs.declared.AirError.{AirError}
use Rattle.radio.specs.declared.AirError.TheVariants.{WrongStore, OutOfBounds}
use Rattle.radio.specs.declared.Heard.{Heard}
use Rattle.radio.specs.declared.Radio.{Radio}
use Rattle.radio.specs.Radio.{RX, MESSAGE}
use Rattle.tnc_core.specs.declared.Tnc.{Tnc}
use Rattle.tnc_core.specs.Tnc.{sound_tnc, with_radio}
use Rattle.tnc_receive.specs.declared.TncHeard.{TncHeard}

abbrev pub not_heard : AirError → Tnc → TncHeard
not_heard e t = record { answer = Err e; tnc = t }

-- a frame changes state and message, and PTT follows the state
abbrev pub put_heard : Tnc → Heard → TncHeard
put_heard t h = record { answer = h.answer; tnc = with_radio t h.radio }

-- whether the radio is handed the frame
abbrev pub hears_by : Tnc → ℕ → ℕ → Result (Unit {0}) AirError
hears_by t rx message =
    pick (eqb rx RX)
    (pick (eqb message MESSAGE) (pick (sound_tnc t) (Ok tt) (Err OutOfBounds)) (Err WrongStore))
    (Err WrongStore)

-- of the stores only their lengths count
unfoldable pub tnc_hears : Tnc → List ℕ → List ℕ → Result (Unit {0}) AirError
tnc_hears t rx message = hears_by t (length rx) (length message)

abbrev pub heard_by : Result (Unit {0}) AirError → Tnc → List ℕ → List ℕ → Heard × List ℕ × List ℕ → TncHeard × List ℕ × List ℕ
heard_by (Ok done) t rx message h = (put_heard t h.0, h.1, h.2)
heard_by (Err e) t rx message h = (not_heard e t, rx, message)

-- what a frame of any kind does, once the radio has done what it does with it
unfoldable pub air_heard : Tnc → List ℕ → List ℕ → Heard × List ℕ × List ℕ → TncHeard × List ℕ × List ℕ
air_heard t rx message h = heard_by (tnc_hears t rx message) t rx message h

-- what the radio does with a frame, by its kind
abbrev pub frame_heard : Frame → Radio → List ℕ → List ℕ → Heard × List ℕ × List ℕ
frame_heard (Lsf lsf) r rx message = lsf_heard r lsf.0 rx message
frame_heard (Stream frame) r rx message = stream_heard r frame rx message
frame_heard (Packet frame) r rx message = packet_heard r frame rx message
