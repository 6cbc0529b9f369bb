-- What is promised over any calls of the TNC, from document 01's "Bounds for 8" and "Answer numbers". Each is proved in proofs/Kept.antt. Assumes nothing.
use Prim.{Unit}
use Rattle.std.specs.Prelude.{ℕ, true, ◌≢◌, ◌≡◌, List, [], ◌∷◌, length}
use Rattle.channel.specs.Access.{sound_channel}
use Rattle.kiss_reader.specs.Reader.{STORE as READER}
use Rattle.kiss_calls.specs.Calls.{sound_buffer}
use Rattle.packets.specs.Queue.{STORE as PACKETS}
use Rattle.streams.specs.Queue.{STORE as STREAMS}
use Rattle.radio.specs.Radio.{RX, MESSAGE}
use Rattle.tnc_core.specs.Tnc.{sound_tnc}
use Rattle.any_calls.specs.Calls.{World, new_world, Call, write_kiss, read_kiss, handle_lsf, handle_packet, handle_stream, set_data_carrier_detect, set_now, set_tx_end_time, ptt, read_tx_frame, after, number, run}

-- the stores have their lengths, and the records are within their bounds
pub record Sound (w : World) : Type 0 where
  pub its_reader : length w.reader ≡ READER
  pub its_packets : length w.packets ≡ PACKETS
  pub its_streams : length w.streams ≡ STREAMS
  pub its_rx : length w.rx ≡ RX
  pub its_message : length w.message ≡ MESSAGE
  pub its_tnc : sound_tnc w.tnc ≡ true
  pub its_buffer : sound_buffer w.tnc.buffer w.reader ≡ true
  pub its_channel : sound_channel w.channel ≡ true

-- a new TNC and channel with stores of their lengths are sound, whatever stands in the stores
abbrev pub NewIsSound : Type 0
NewIsSound =
    (reader packets streams rx message : List ℕ) → length reader ≡ READER → length packets ≡ PACKETS → length streams ≡ STREAMS → length rx ≡ RX → length message ≡ MESSAGE
    → Sound (new_world reader packets streams rx message)

-- the arrays in a call have their types' lengths
abbrev pub Typed : Call → Type 0
Typed (write_kiss buf) = Unit {0}
Typed (read_kiss target) = Unit {0}
Typed (handle_lsf lsf) = length lsf ≡ 30
Typed (handle_packet f) = length f.payload ≡ 25
Typed (handle_stream f) = (length f.lich_part ≡ 5) × (length f.stream_data ≡ 16)
Typed (set_data_carrier_detect dcd) = Unit {0}
Typed (set_now samples) = Unit {0}
Typed (set_tx_end_time samples) = Unit {0}
Typed ptt = Unit {0}
Typed read_tx_frame = Unit {0}

unfoldable pub AllTyped : List Call → Type 0
AllTyped [] = Unit {0}
AllTyped (c ∷ cs) = Typed c × AllTyped cs

-- every call leaves a sound world sound
abbrev pub SoundStaysSound : Type 0
SoundStaysSound = (w : World) (c : Call) → Typed c → Sound w → Sound (after w c)

-- no call on a sound world is answered 7 or 8
abbrev pub SoundIsAnswered : Type 0
SoundIsAnswered = (w : World) (c : Call) → Typed c → Sound w → (number w c ≢ 7) × (number w c ≢ 8)

-- so over any calls from a new TNC the world is sound, and no next call is answered 7 or 8
abbrev pub AnyCallsStaySound : Type 0
AnyCallsStaySound = (w : World) (cs : List Call) (c : Call) → AllTyped cs → Typed c → Sound w → Sound (run w cs) × (number (run w cs) c ≢ 7) × (number (run w cs) c ≢ 8)

-- with any answer but 0 the world after a call is the world before
abbrev pub RefusedKeepsAll : Type 0
RefusedKeepsAll = (w : World) (c : Call) → number w c ≢ 0 → after w c ≡ w
