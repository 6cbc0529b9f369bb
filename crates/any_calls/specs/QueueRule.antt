-- Document 01's queue rule, and the same for the stream queue, over any calls from a new TNC. Each is proved in proofs/Queues.antt. Assumes nothing.
use Rattle.std.specs.Prelude.{true, ◌≢◌, ◌≡◌, List, [], ◌∷◌, ◌++◌, length, Ok, Some}
use Rattle.protocol.specs.declared.StreamFrame.{StreamFrame}
use Rattle.protocol.specs.declared.ModulatorFrame.TheVariants.{EndOfTransmission}
use Rattle.channel.specs.Access.{new_channel}
use Rattle.kiss_reader.specs.Reader.{STORE as READER}
use Rattle.packets.specs.Frames.{Packet, AirFrame, joined}
use Rattle.packets.specs.Queue.{STORE as PACKETS}
use Rattle.streams.specs.Queue.{STORE as STREAMS}
use Rattle.state.specs.declared.State.TheVariants.{TxPacket}
use Rattle.radio.specs.Radio.{RX, MESSAGE}
use Rattle.tnc_core.specs.Tnc.{new_tnc}
use Rattle.any_calls.specs.Calls.{World, Call, read_tx_frame, gives, number, run}
use Rattle.any_calls.specs.Promises.{Typed, AllTyped}
use Rattle.any_calls.specs.Queues.{packets_in, streams_in, brings, in_packets, in_streams, read_in, over_all}

-- a new TNC and channel, and stores of their lengths
pub record New (w : World) : Type 0 where
  pub its_tnc : w.tnc ≡ new_tnc
  pub its_channel : w.channel ≡ new_channel
  pub its_reader : length w.reader ≡ READER
  pub its_packets : length w.packets ≡ PACKETS
  pub its_streams : length w.streams ≡ STREAMS
  pub its_rx : length w.rx ≡ RX
  pub its_message : length w.message ≡ MESSAGE

-- from it no call sequence ever answers 7 or 8
abbrev pub NeverOutOfBounds : Type 0
NeverOutOfBounds = (w : World) (cs : List Call) (c : Call) → New w → AllTyped cs → Typed c → (number (run w cs) c ≢ 7) × (number (run w cs) c ≢ 8)

-- ---- packets

-- the packets that calls accept, in order of acceptance, and the frames that they read in packet transmissions, preambles and ends removed
abbrev pub accepted : World → List Call → List Packet
accepted w cs = over_all (brings packets_in) w cs

abbrev pub frames_read : World → List Call → List AirFrame
frames_read w cs = over_all (read_in in_packets) w cs

-- the frames read are a beginning of the accepted packets' frame lists, joined in order of acceptance
abbrev pub QueueRule : Type 0
QueueRule = (w : World) (cs : List Call) → New w → AllTyped cs → (rest : List AirFrame) × (joined (accepted w cs) ≡ frames_read w cs ++ rest)

-- an end of transmission there comes only when that list is used up
abbrev pub EndWhenUsedUp : Type 0
EndWhenUsedUp =
    (w : World) (cs : List Call) → New w → AllTyped cs → (run w cs).tnc.radio.state ≡ TxPacket → (gives (run w cs)).answer ≡ Ok (Some EndOfTransmission)
    → joined (accepted w cs) ≡ frames_read w cs

-- a read in a packet transmission with something left gives a frame, and never an end
abbrev pub SomethingLeftIsGiven : Type 0
SomethingLeftIsGiven =
    (w : World) (cs : List Call) → New w → AllTyped cs → (run w cs).tnc.radio.state ≡ TxPacket → joined (accepted w cs) ≢ frames_read w cs
    → (read_in in_packets (run w cs) read_tx_frame ≢ []) × ((gives (run w cs)).answer ≢ Ok (Some EndOfTransmission))

-- and with nothing left it gives the end: nobody stays keyed with nothing to send
abbrev pub EndOnceUsedUp : Type 0
EndOnceUsedUp =
    (w : World) (cs : List Call) → New w → AllTyped cs → (run w cs).tnc.radio.state ≡ TxPacket → joined (accepted w cs) ≡ frames_read w cs
    → (gives (run w cs)).answer ≡ Ok (Some EndOfTransmission)

-- ---- streams

abbrev pub streams_accepted : World → List Call → List StreamFrame
streams_accepted w cs = over_all (brings streams_in) w cs

abbrev pub stream_frames_read : World → List Call → List StreamFrame
stream_frames_read w cs = over_all (read_in in_streams) w cs

-- the stream frames read are a beginning of the accepted ones, in order
abbrev pub StreamRule : Type 0
StreamRule = (w : World) (cs : List Call) → New w → AllTyped cs → (rest : List StreamFrame) × (streams_accepted w cs ≡ stream_frames_read w cs ++ rest)

-- the last of them is marked as the last
pub record Ends (fs : List StreamFrame) : Type 0 where
  pub before : List StreamFrame
  pub last : StreamFrame
  pub its_list : fs ≡ before ++ (last ∷ [])
  pub its_mark : last.end_of_stream ≡ true

-- an end of transmission that ends no packet transmission comes only behind a frame marked as last
abbrev pub EndBehindTheLast : Type 0
EndBehindTheLast =
    (w : World) (cs : List Call) → New w → AllTyped cs → (run w cs).tnc.radio.state ≢ TxPacket → (gives (run w cs)).answer ≡ Ok (Some EndOfTransmission)
    → Ends (stream_frames_read w cs)
