-- The TNC's nine states, when PTT is on, their bounds, and how a transmission ends, from document 01's "Bounds for 8" and m17core's tnc.rs. Assumes nothing.
use Rattle.std.specs.Prelude.{ℕ, ◌+◌, ◌^◌, Bool, true, false, ltb, leb}
use Rattle.choice.specs.Pick.{pick}
use Rattle.state.specs.declared.State.{State}
use Rattle.state.specs.declared.Reception.{Reception}
use Rattle.state.specs.declared.Reception.TheVariants.{Nothing, Acquiring, Stream, Packet}
use Rattle.state.specs.declared.Transmission.{Transmission}
use Rattle.state.specs.declared.Transmission.TheVariants.{Receiving, Stream as InStream, StreamSent, Packet as InPacket, Ending}
use Rattle.state.specs.declared.State.TheVariants.{Idle, RxAcquiringStream, RxStream, RxPacket, TxStream, TxStreamSentEndOfStream, TxPacket, TxEnding, TxEndingAtTime}

-- PTT is on exactly in the five transmit states
abbrev pub transmits : State → Bool
transmits Idle = false
transmits (RxAcquiringStream mask) = false
transmits (RxStream expected) = false
transmits (RxPacket count) = false
transmits TxStream = true
transmits TxStreamSentEndOfStream = true
transmits TxPacket = true
transmits TxEnding = true
transmits (TxEndingAtTime end) = true

-- what is being received in a state
abbrev pub reception_of : State → Reception
reception_of Idle = Nothing
reception_of (RxAcquiringStream mask) = Acquiring mask
reception_of (RxStream expected) = Stream expected
reception_of (RxPacket count) = Packet count
reception_of TxStream = Nothing
reception_of TxStreamSentEndOfStream = Nothing
reception_of TxPacket = Nothing
reception_of TxEnding = Nothing
reception_of (TxEndingAtTime end) = Nothing

-- what is being sent in a state
abbrev pub transmission_of : State → Transmission
transmission_of Idle = Receiving
transmission_of (RxAcquiringStream mask) = Receiving
transmission_of (RxStream expected) = Receiving
transmission_of (RxPacket count) = Receiving
transmission_of TxStream = InStream
transmission_of TxStreamSentEndOfStream = StreamSent
transmission_of TxPacket = InPacket
transmission_of TxEnding = Ending
transmission_of (TxEndingAtTime end) = Ending

-- the latest end: the clock's limit and 2^32 samples
abbrev pub LASTEND : ℕ
LASTEND = 2 ^ 62 + 2 ^ 32

-- segment mask below 64, count at most 32, end within its limit; the expected number has no bound
abbrev pub sound_state : State → Bool
sound_state Idle = true
sound_state (RxAcquiringStream mask) = ltb mask 64
sound_state (RxStream expected) = true
sound_state (RxPacket count) = leb count 32
sound_state TxStream = true
sound_state TxStreamSentEndOfStream = true
sound_state TxPacket = true
sound_state TxEnding = true
sound_state (TxEndingAtTime end) = leb end LASTEND

-- a transmission is over once the clock shows its end
abbrev pub time_reached : State → ℕ → State
time_reached Idle now = Idle
time_reached (RxAcquiringStream mask) now = RxAcquiringStream mask
time_reached (RxStream expected) now = RxStream expected
time_reached (RxPacket count) now = RxPacket count
time_reached TxStream now = TxStream
time_reached TxStreamSentEndOfStream now = TxStreamSentEndOfStream
time_reached TxPacket now = TxPacket
time_reached TxEnding now = TxEnding
time_reached (TxEndingAtTime end) now = pick (leb end now) Idle (TxEndingAtTime end)

-- the end time acts only in the ending state
abbrev pub ending_at : State → ℕ → State
ending_at Idle end = Idle
ending_at (RxAcquiringStream mask) end = RxAcquiringStream mask
ending_at (RxStream expected) end = RxStream expected
ending_at (RxPacket count) end = RxPacket count
ending_at TxStream end = TxStream
ending_at TxStreamSentEndOfStream end = TxStreamSentEndOfStream
ending_at TxPacket end = TxPacket
ending_at TxEnding end = TxEndingAtTime end
ending_at (TxEndingAtTime last) end = TxEndingAtTime last
