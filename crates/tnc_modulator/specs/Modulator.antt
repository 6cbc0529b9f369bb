-- What a read for the modulator answers, and the state, the queues and the channel after it, from document 01 under "To the modulator", "Channel access", "Answer numbers"
-- and "Bounds for 8": `begun` where nothing is being sent, `stream_given` and `packet_given` in a transmission. Assumes nothing.
use Rattle.std.specs.Prelude.{ℕ, Bool, List, eqb, length, Result, Ok, Err, Option, Some, None}
use Rattle.choice.specs.Pick.{pick, and}
use Rattle.channel.specs.declared.Channel.{Channel}
use Rattle.channel.specs.Access.{sound_channel}
use Rattle.state.specs.declared.State.{State}
use Rattle.state.specs.declared.State.TheVariants.{TxEnding}
use Rattle.state.specs.declared.Transmission.{Transmission}
use Rattle.state.specs.declared.Transmission.TheVariants.{Receiving, Stream as InStream, StreamSent, Packet as InPacket, Ending}
use Rattle.state.specs.State.{transmission_of, sound_state}
use Rattle.room.specs.declared.LentError.{LentError}
use Rattle.room.specs.declared.LentError.TheVariants.{WrongStore, OutOfBounds}
use Rattle.room.specs.Room.{lent_number}
use Rattle.protocol.specs.declared.ModulatorFrame.{ModulatorFrame}
use Rattle.protocol.specs.declared.ModulatorFrame.TheVariants.{Preamble, Lsf, Stream, Packet, EndOfTransmission}
use Rattle.sending.specs.declared.Sending.{Sending}
use Rattle.sending.specs.Sending.{sound_sending}
use Rattle.tx_frame.specs.declared.TxRead.{TxRead}
use Rattle.tx_frame.specs.Frame.{unfilled}
use Rattle.tx_begin.specs.Begin.{begun}
use Rattle.tx_stream.specs.Stream.{stream_given}
use Rattle.tx_packet.specs.Packet.{packet_given}

-- the lengths of the two stores: four packets, eight stream frames and an LSF
abbrev pub PACKETS : ℕ
PACKETS = 3420

abbrev pub STREAMS : ℕ
STREAMS = 230

-- state, queues and channel are within their bounds
unfoldable pub all_sound : State → Sending → Channel → Bool
all_sound state sending channel = and (sound_state state) (and (sound_sending sending) (sound_channel channel))

-- behind a stream's last frame comes the end of transmission; once an end was given nothing is answered
abbrev pub given : Transmission → State → Sending → Channel → List ℕ → List ℕ → TxRead
given Receiving state sending channel packets streams = begun state sending channel
given InStream state sending channel packets streams = stream_given sending channel streams
given StreamSent state sending channel packets streams = unfilled (Ok (Some EndOfTransmission)) TxEnding sending channel
given InPacket state sending channel packets streams = packet_given sending channel packets
given Ending state sending channel packets streams = unfilled (Ok None) state sending channel

-- stores (7), then state (8)
unfoldable pub tx_read : State → Sending → Channel → List ℕ → List ℕ → TxRead
tx_read state sending channel packets streams =
    pick (and (eqb (length packets) PACKETS) (eqb (length streams) STREAMS))
    (pick (all_sound state sending channel) (given (transmission_of state) state sending channel packets streams) (unfilled (Err OutOfBounds) state sending channel))
    (unfilled (Err WrongStore) state sending channel)

-- ---- numbers

-- document 01's number of an answer
abbrev pub tx_number : Result (Option ModulatorFrame) LentError → ℕ
tx_number (Ok frame) = 0
tx_number (Err e) = lent_number e

-- the number that event 08 prints for a frame's kind; with a refusal there is none
abbrev pub kind_number : Result (Option ModulatorFrame) LentError → ℕ
kind_number (Ok None) = 0
kind_number (Ok (Some (Preamble delay))) = 1
kind_number (Ok (Some (Lsf lsf))) = 2
kind_number (Ok (Some (Stream frame))) = 3
kind_number (Ok (Some (Packet frame))) = 4
kind_number (Ok (Some EndOfTransmission)) = 5
kind_number (Err e) = 0
