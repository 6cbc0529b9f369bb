-- What every call of the TNC with a frame from the air does, from document 01's "From the air", "Answer numbers" and "Bounds for 8".
-- Each fact rules out the wrong answer that it is named after. Assumes nothing.
use Rattle.std.specs.Prelude.{ℕ, true, false, ◌≢◌, ◌≡◌, List, length, Result, Err}
use Rattle.protocol.specs.declared.PacketFrame.{PacketFrame}
use Rattle.protocol.specs.declared.StreamFrame.{StreamFrame}
use Rattle.outgoing.specs.declared.Outgoing.{Outgoing}
use Rattle.state.specs.declared.State.TheVariants.{Idle, TxPacket}
use Rattle.radio.specs.declared.AirError.{AirError}
use Rattle.radio.specs.declared.AirError.TheVariants.{OutOfRange, WrongStore}
use Rattle.radio.specs.declared.Radio.{Radio}
use Rattle.air_lsf.specs.Begun.{lsf_heard}
use Rattle.tnc_air.specs.Heard.{packet_heard}
use Rattle.tnc_stream.specs.Stream.{stream_heard}
use Rattle.tnc_core.specs.declared.Tnc.{Tnc}
use Rattle.tnc_receive.specs.Calls.{put_heard, air_heard}

pub record Put : Type 0 where
  -- PTT is on exactly in the five transmit states: it goes by the state that the radio has come to, whatever it was
  pub air_keeps_ptt : (t : Tnc) (a : (Result (Unit {0}) AirError)) (o : Outgoing) → ((put_heard t (record { answer = a; radio = record { state = Idle; outgoing = o } })).tnc.ptt ≡ false)
      × ((put_heard t (record { answer = a; radio = record { state = TxPacket; outgoing = o } })).tnc.ptt ≡ true)
  -- a frame out of range is 6: the call answers what the radio answers
  pub answer_forgotten : (t : Tnc) (r : Radio) → (put_heard t (record { answer = Err OutOfRange; radio = r })).answer ≡ Err OutOfRange

-- a lent store not of its stated length is 7, and all lent bytes and records stay
pub record Refused : Type 0 where
  -- where an LSF is refused each store is as it was
  pub lsf_refusal_swaps_stores : (t : Tnc) (lsf rx message : List ℕ) → length rx ≢ 855
      → air_heard t rx message (lsf_heard t.radio lsf rx message) ≡ (record { answer = Err WrongStore; tnc = t }, rx, message)
  -- where a packet frame is
  pub packet_refusal_swaps_stores : (t : Tnc) (frame : PacketFrame) (rx message : List ℕ) → length rx ≢ 855
      → air_heard t rx message (packet_heard t.radio frame rx message) ≡ (record { answer = Err WrongStore; tnc = t }, rx, message)
  -- where a stream frame is
  pub stream_refusal_swaps_stores : (t : Tnc) (frame : StreamFrame) (rx message : List ℕ) → length rx ≢ 855
      → air_heard t rx message (stream_heard t.radio frame rx message) ≡ (record { answer = Err WrongStore; tnc = t }, rx, message)
