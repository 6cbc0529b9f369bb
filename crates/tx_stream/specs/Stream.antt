-- What a read for the modulator answers in a stream transmission, and the state and the queue after it, from document 01 under "To the modulator": nothing while its queue is
-- empty, else a pending LSF first, then the frames. Assumes nothing.
use Rattle.std.specs.Prelude.{ℕ, List, Result, Ok, Err, Option, Some, None}
use Rattle.choice.specs.Pick.{pick}
use Rattle.channel.specs.declared.Channel.{Channel}
use Rattle.state.specs.declared.State.{State}
use Rattle.state.specs.declared.State.TheVariants.{TxStream, TxStreamSentEndOfStream}
use Rattle.room.specs.declared.LentError.{LentError}
use Rattle.protocol.specs.declared.ModulatorFrame.{ModulatorFrame}
use Rattle.protocol.specs.declared.ModulatorFrame.TheVariants.{Preamble, Lsf, Stream, Packet, EndOfTransmission}
use Rattle.streams.specs.declared.StreamRead.{StreamRead}
use Rattle.streams.specs.declared.StreamQueue.{StreamQueue}
use Rattle.streams.specs.Queue.{read_next as next_frame}
use Rattle.sending.specs.declared.Sending.{Sending}
use Rattle.tx_frame.specs.declared.TxRead.{TxRead}

-- after a frame marked as last comes the end of transmission
abbrev pub after_stream : Result (Option ModulatorFrame) LentError → State
after_stream (Ok None) = TxStream
after_stream (Ok (Some (Preamble delay))) = TxStream
after_stream (Ok (Some (Lsf lsf))) = TxStream
after_stream (Ok (Some (Stream frame))) = pick frame.end_of_stream TxStreamSentEndOfStream TxStream
after_stream (Ok (Some (Packet frame))) = TxStream
after_stream (Ok (Some EndOfTransmission)) = TxStream
after_stream (Err e) = TxStream

abbrev pub with_streams : Sending → StreamQueue → Sending
with_streams s q = record { packets = s.packets; streams = q; tx_delay = s.tx_delay }

abbrev pub stream_read : Sending → Channel → StreamRead → TxRead
stream_read sending channel r = record { answer = r.answer; state = after_stream r.answer; sending = with_streams sending r.queue; channel = channel }

unfoldable pub stream_given : Sending → Channel → List ℕ → TxRead
stream_given sending channel store = stream_read sending channel (next_frame sending.streams store)
