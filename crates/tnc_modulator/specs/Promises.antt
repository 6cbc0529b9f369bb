-- What is promised of the reads for the modulator, from document 01. Each is proved in proofs/Kept.antt. Assumes nothing.
use Rattle.std.specs.Prelude.{ℕ, true, false, List, ◌≢◌, ◌≡◌, length, replicate, Result, Ok, Err, Option, Some, None}
use Rattle.channel.specs.declared.Channel.{Channel}
use Rattle.channel.specs.declared.Access.TheVariants.{Sends}
use Rattle.channel.specs.Access.{accessed}
use Rattle.room.specs.declared.LentError.{LentError}
use Rattle.protocol.specs.declared.lsf.LsfFrame.{LsfFrame}
use Rattle.protocol.specs.declared.StreamFrame.{StreamFrame}
use Rattle.protocol.specs.declared.PacketFrame.{PacketFrame}
use Rattle.protocol.specs.declared.PacketFrameCounter.TheVariants.{Frame}
use Rattle.protocol.specs.declared.ModulatorFrame.{ModulatorFrame}
use Rattle.protocol.specs.declared.ModulatorFrame.TheVariants.{Preamble, Lsf, Stream, Packet, EndOfTransmission}
use Rattle.state.specs.declared.State.{State}
use Rattle.state.specs.declared.State.TheVariants.{TxStream, TxStreamSentEndOfStream, TxPacket, TxEnding}
use Rattle.state.specs.State.{transmits}
use Rattle.packets.specs.Queue.{is_empty, read_next as next_piece}
use Rattle.sending.specs.declared.Sending.{Sending}
use Rattle.sending.specs.Sending.{wants_to_send}
use Rattle.tx_frame.specs.declared.TxRead.{TxRead}
use Rattle.tnc_modulator.specs.Modulator.{PACKETS, STREAMS, all_sound, tx_read, tx_number}

-- what a read is given: the records and their stores, as the last call left them
pub record Box : Type 0 where
  pub state : State
  pub sending : Sending
  pub channel : Channel
  pub packets : List ℕ
  pub streams : List ℕ

abbrev pub read_of : Box → TxRead
read_of x = tx_read x.state x.sending x.channel x.packets x.streams

abbrev pub afterwards : Box → TxRead → Box
afterwards x r = record { state = r.state; sending = r.sending; channel = r.channel; packets = x.packets; streams = x.streams }

abbrev pub after_read : Box → Box
after_read x = afterwards x (read_of x)

-- with any answer but 0 state, queues and channel are as they were
abbrev pub RefusedKeepsAll : Type 0
RefusedKeepsAll = (x : Box) → tx_number (read_of x).answer ≢ 0 → after_read x ≡ x

-- ---- the bounds

-- the stores have their lengths, and the records are within their bounds
pub record Sound (x : Box) : Type 0 where
  pub its_packets : length x.packets ≡ PACKETS
  pub its_streams : length x.streams ≡ STREAMS
  pub its_state : all_sound x.state x.sending x.channel ≡ true

-- a sound box is not refused, and stays sound
abbrev pub SoundIsAnswered : Type 0
SoundIsAnswered = (x : Box) → Sound x → tx_number (read_of x).answer ≡ 0

abbrev pub SoundStaysSound : Type 0
SoundStaysSound = (x : Box) → Sound x → Sound (after_read x)

-- ---- PTT

-- a read never switches PTT off; it switches PTT on with a preamble, and only with one
pub record Ptt (x : Box) : Type 0 where
  pub stays : transmits x.state ≡ true → transmits (read_of x).state ≡ true
  pub comes : transmits x.state ≡ false → transmits (read_of x).state ≡ true → (read_of x).answer ≡ Ok (Some (Preamble x.sending.tx_delay))
  pub keyed : (delay : ℕ) → (read_of x).answer ≡ Ok (Some (Preamble delay)) → (transmits x.state ≡ false) × (transmits (read_of x).state ≡ true)

abbrev pub PttFollows : Type 0
PttFollows = (x : Box) → Ptt x

-- the preamble is as long as the host set it
abbrev pub PreambleHasTheDelay : Type 0
PreambleHasTheDelay = (x : Box) (delay : ℕ) → (read_of x).answer ≡ Ok (Some (Preamble delay)) → delay ≡ x.sending.tx_delay

-- while a carrier is heard nothing is begun, but in full duplex
abbrev pub CarrierHoldsBack : Type 0
CarrierHoldsBack = (x : Box) → x.channel.carrier ≡ true → x.channel.duplex ≡ false → (delay : ℕ) → (read_of x).answer ≢ Ok (Some (Preamble delay))

-- where something waits to be sent and the channel may be used, a transmission is begun
abbrev pub KeysUp : Type 0
KeysUp = (x : Box) → Sound x → transmits x.state ≡ false → wants_to_send x.sending ≡ true → (accessed x.channel).answer ≡ Ok Sends → (read_of x).answer ≡ Ok (Some (Preamble x.sending.tx_delay))

-- with no LSF pending and no packet waiting nothing is begun, and nothing changes
abbrev pub NothingToSendKeysNothing : Type 0
NothingToSendKeysNothing =
    (x : Box) → Sound x → transmits x.state ≡ false → x.sending.streams.pending ≡ false → is_empty x.sending.packets ≡ true
    → ((read_of x).answer ≡ Ok None) × (after_read x ≡ x)

-- ---- order

-- a pending stream LSF goes before packets
abbrev pub LsfBeforePackets : Type 0
LsfBeforePackets = (x : Box) → x.sending.streams.pending ≡ true → (delay : ℕ) → (read_of x).answer ≡ Ok (Some (Preamble delay)) → (read_of x).state ≡ TxStream

-- else it is packets that are begun
abbrev pub PacketsBegin : Type 0
PacketsBegin = (x : Box) → x.sending.streams.pending ≡ false → (delay : ℕ) → (read_of x).answer ≡ Ok (Some (Preamble delay)) → (read_of x).state ≡ TxPacket

-- an end of transmission comes behind a stream's last frame, or where the packets that wait are spent
pub data Spent (x : Box) : Type 0 where
  stream_spent : x.state ≡ TxStreamSentEndOfStream → Spent x
  packets_spent : x.state ≡ TxPacket → (next_piece x.sending.packets x.packets).answer ≡ Ok (Some EndOfTransmission) → Spent x

abbrev pub EndOnlyWhenSpent : Type 0
EndOnlyWhenSpent = (x : Box) → (read_of x).answer ≡ Ok (Some EndOfTransmission) → Spent x × ((read_of x).state ≡ TxEnding)

-- after a stream frame marked as last comes the end of transmission, after another one it does not
abbrev pub EndAfterTheLast : Type 0
EndAfterTheLast =
    (x : Box) → Sound x → (frame : StreamFrame) → (read_of x).answer ≡ Ok (Some (Stream frame))
    → (frame.end_of_stream ≡ true → (read_of (after_read x)).answer ≡ Ok (Some EndOfTransmission))
    × (frame.end_of_stream ≡ false → (read_of (after_read x)).answer ≢ Ok (Some EndOfTransmission))

-- once an end was given nothing is answered, and nothing changes
abbrev pub NothingAfterTheEnd : Type 0
NothingAfterTheEnd = (x : Box) → Sound x → (read_of x).answer ≡ Ok (Some EndOfTransmission) → ((read_of (after_read x)).answer ≡ Ok None) × (after_read (after_read x) ≡ after_read x)

-- ---- what a read leaves alone

-- each queue is read only in a transmission of its kind, and the delay stays
pub record Left (x : Box) : Type 0 where
  pub packets : x.state ≢ TxPacket → (read_of x).sending.packets ≡ x.sending.packets
  pub streams : x.state ≢ TxStream → (read_of x).sending.streams ≡ x.sending.streams
  pub delay : (read_of x).sending.tx_delay ≡ x.sending.tx_delay

abbrev pub QueuesStand : Type 0
QueuesStand = (x : Box) → Left x

-- an answer laid out in fields: a delay, an LSF, a stream frame and a packet frame
pub record Fields : Type 0 where
  pub tx_delay : ℕ
  pub lsf : LsfFrame
  pub stream : StreamFrame
  pub packet : PacketFrame

abbrev pub filled_with : ℕ → LsfFrame → StreamFrame → PacketFrame → Fields
filled_with delay lsf stream packet = record { tx_delay = delay; lsf = lsf; stream = stream; packet = packet }

-- an LSF, a stream frame and a packet frame that are none
abbrev pub no_lsf : LsfFrame
no_lsf = record { 0 = replicate 30 0 }

abbrev pub no_frame : StreamFrame
no_frame = record { lich_idx = 0; lich_part = replicate 5 0; frame_number = 0; end_of_stream = false; stream_data = replicate 16 0 }

abbrev pub no_piece : PacketFrame
no_piece = record { payload = replicate 25 0; counter = Frame 0 }

-- the fields of an answer, with zeros in place of what its frame has not
abbrev pub fields_of : Result (Option ModulatorFrame) LentError → Fields
fields_of (Ok None) = filled_with 0 no_lsf no_frame no_piece
fields_of (Ok (Some (Preamble delay))) = filled_with delay no_lsf no_frame no_piece
fields_of (Ok (Some (Lsf lsf))) = filled_with 0 lsf no_frame no_piece
fields_of (Ok (Some (Stream frame))) = filled_with 0 no_lsf frame no_piece
fields_of (Ok (Some (Packet frame))) = filled_with 0 no_lsf no_frame frame
fields_of (Ok (Some EndOfTransmission)) = filled_with 0 no_lsf no_frame no_piece
fields_of (Err e) = filled_with 0 no_lsf no_frame no_piece

-- fields with only what the answer's kind uses, and zeros in place of the rest
abbrev pub only : Result (Option ModulatorFrame) LentError → Fields → Fields
only (Ok None) f = filled_with 0 no_lsf no_frame no_piece
only (Ok (Some (Preamble delay))) f = filled_with f.tx_delay no_lsf no_frame no_piece
only (Ok (Some (Lsf lsf))) f = filled_with 0 f.lsf no_frame no_piece
only (Ok (Some (Stream frame))) f = filled_with 0 no_lsf f.stream no_piece
only (Ok (Some (Packet frame))) f = filled_with 0 no_lsf no_frame f.packet
only (Ok (Some EndOfTransmission)) f = filled_with 0 no_lsf no_frame no_piece
only (Err e) f = filled_with 0 no_lsf no_frame no_piece

-- fields that the answer's kind does not use are zero
abbrev pub UnusedIsZero : Type 0
UnusedIsZero = (x : Box) → only (read_of x).answer (fields_of (read_of x).answer) ≡ fields_of (read_of x).answer
