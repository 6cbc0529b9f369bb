-- What a read for the modulator answers in a packet transmission, and the state and the queue after it, from document 01 under "To the modulator": nothing where its queue is
-- empty at the call, else a frame or the end of transmission. Assumes nothing.
use Rattle.std.specs.Prelude.{ℕ, List, Result, Ok, Err, Option, Some, None}
use Rattle.channel.specs.declared.Channel.{Channel}
use Rattle.state.specs.declared.State.{State}
use Rattle.state.specs.declared.State.TheVariants.{TxPacket, TxEnding}
use Rattle.packets.specs.declared.PacketRead.{PacketRead}
use Rattle.packets.specs.declared.PacketQueue.{PacketQueue}
use Rattle.packets.specs.Queue.{read_next as next_piece}
use Rattle.room.specs.declared.LentError.{LentError}
use Rattle.protocol.specs.declared.ModulatorFrame.{ModulatorFrame}
use Rattle.protocol.specs.declared.ModulatorFrame.TheVariants.{Preamble, Lsf, Stream, Packet, EndOfTransmission}
use Rattle.sending.specs.declared.Sending.{Sending}
use Rattle.tx_frame.specs.declared.TxRead.{TxRead}

-- after its end a packet transmission is over
abbrev pub after_packet : Result (Option ModulatorFrame) LentError → State
after_packet (Ok None) = TxPacket
after_packet (Ok (Some (Preamble delay))) = TxPacket
after_packet (Ok (Some (Lsf lsf))) = TxPacket
after_packet (Ok (Some (Stream frame))) = TxPacket
after_packet (Ok (Some (Packet frame))) = TxPacket
after_packet (Ok (Some EndOfTransmission)) = TxEnding
after_packet (Err e) = TxPacket

abbrev pub with_packets : Sending → PacketQueue → Sending
with_packets s q = record { packets = q; streams = s.streams; tx_delay = s.tx_delay }

abbrev pub packet_read : Sending → Channel → PacketRead → TxRead
packet_read sending channel r = record { answer = r.answer; state = after_packet r.answer; sending = with_packets sending r.queue; channel = channel }

unfoldable pub packet_given : Sending → Channel → List ℕ → TxRead
packet_given sending channel store = packet_read sending channel (next_piece sending.packets store)
