-- What calls of the TNC take into the queues and what they give of them, from document 01's "From the host", "To the modulator" and its queue rule. Assumes nothing.
use Rattle.std.specs.Prelude.{ℕ, List, [], ◌∷◌, ◌++◌, ltb, eqb, Result, Err, Ok}
use Rattle.choice.specs.Pick.{pick}
use Rattle.protocol.specs.declared.StreamFrame.{StreamFrame}
use Rattle.kiss_layout.specs.declared.KissCommand.TheVariants.{DataFrame, TxDelay, P, FullDuplex}
use Rattle.kiss_layout.specs.declared.KissError.{KissError}
use Rattle.kiss_layout.specs.declared.KissCommand.{KissCommand}
use Rattle.kiss_layout.specs.Read.{port_read, command_read}
use Rattle.kiss_calls.specs.declared.WriteError.{WriteError}
use Rattle.kiss_calls.specs.Promises.{after_written}
use Rattle.packets.specs.Frames.{Packet, AirFrame}
use Rattle.packets.specs.Queue.{made_basic, made_full, pushed_basic, pushed_full, frames_in}
use Rattle.packet_rule.specs.Left.{accepted_by}
use Rattle.streams.specs.Queue.{pushed}
use Rattle.streams.specs.Promises.{added_by, given_by, frame_in}
use Rattle.state.specs.declared.Transmission.{Transmission}
use Rattle.state.specs.declared.Transmission.TheVariants.{Receiving, Stream as InStream, StreamSent, Packet as InPacket, Ending}
use Rattle.state.specs.State.{transmission_of}
use Rattle.host_frame.specs.Promises.{Box as HostBox, after as after_frame}
use Rattle.tnc_drain.specs.Drain.{reader_box, host_box, frames_held}
use Rattle.tnc_transmit.specs.declared.TncTx.{TncTx}
use Rattle.any_calls.specs.Calls.{World, Call, write_kiss, read_kiss, handle_lsf, handle_packet, handle_stream, set_data_carrier_detect, set_now, set_tx_end_time, ptt, read_tx_frame, writes, gives, after}

-- ---- from the host

-- of a data frame what belongs to its port: 0, 1 or 2
abbrev pub of_data : {A : Type 0} → List A → List A → List A → Result ℕ KissError → Result KissCommand KissError → List A
of_data basic full stream (Err e) c = []
of_data basic full stream (Ok port) (Err e) = []
of_data basic full stream (Ok port) (Ok DataFrame) = pick (ltb 2 port) [] (pick (eqb port 0) basic (pick (eqb port 1) full stream))
of_data basic full stream (Ok port) (Ok TxDelay) = []
of_data basic full stream (Ok port) (Ok P) = []
of_data basic full stream (Ok port) (Ok FullDuplex) = []

-- the packet that a frame of the host brings, if it is accepted
unfoldable pub packets_in : HostBox → List ℕ → List Packet
packets_in x frame =
    of_data (accepted_by (pushed_basic x.host.sending.packets frame x.packets).0.answer (made_basic frame))
    (accepted_by (pushed_full x.host.sending.packets frame x.packets).0.answer (made_full frame)) [] (port_read frame) (command_read frame)

-- the stream frame that it brings, if it is queued
unfoldable pub streams_in : HostBox → List ℕ → List StreamFrame
streams_in x frame = of_data [] [] (added_by (pushed x.host.sending.streams frame x.streams).0.answer (frame_in frame)) (port_read frame) (command_read frame)

-- what frames bring, one after the other
unfoldable pub brought_by : {A : Type 0} → (HostBox → List ℕ → List A) → List (List ℕ) → HostBox → List A
brought_by g [] x = []
brought_by g (f ∷ fs) x = g x f ++ brought_by g fs (after_frame x f)

abbrev pub host_of : World → HostBox
host_of w = host_box (record { sending = w.tnc.sending; channel = w.channel }) w.packets w.streams

-- the frames that a write completes; a write that is refused completes none
abbrev pub frames_after : Result ℕ WriteError → World → List ℕ → List (List ℕ)
frames_after (Ok n) w buf = frames_held (after_written (reader_box w.tnc.buffer w.reader) buf)
frames_after (Err error) w buf = []

-- what a call brings into a queue
unfoldable pub brings : {A : Type 0} → (HostBox → List ℕ → List A) → World → Call → List A
brings g w (write_kiss buf) = brought_by g (frames_after (writes w buf).0.answer w buf) (host_of w)
brings g w (read_kiss target) = []
brings g w (handle_lsf lsf) = []
brings g w (handle_packet f) = []
brings g w (handle_stream f) = []
brings g w (set_data_carrier_detect dcd) = []
brings g w (set_now samples) = []
brings g w (set_tx_end_time samples) = []
brings g w ptt = []
brings g w read_tx_frame = []

-- ---- to the modulator: the frames of a transmission, preambles and ends removed

-- a read in a packet transmission, and in a stream transmission
abbrev pub in_packets : Transmission → TncTx → List AirFrame
in_packets Receiving r = []
in_packets InStream r = []
in_packets StreamSent r = []
in_packets InPacket r = frames_in r.answer
in_packets Ending r = []

abbrev pub in_streams : Transmission → TncTx → List StreamFrame
in_streams Receiving r = []
in_streams InStream r = given_by r.answer
in_streams StreamSent r = []
in_streams InPacket r = []
in_streams Ending r = []

-- what a call reads of a transmission
unfoldable pub read_in : {A : Type 0} → (Transmission → TncTx → List A) → World → Call → List A
read_in g w (write_kiss buf) = []
read_in g w (read_kiss target) = []
read_in g w (handle_lsf lsf) = []
read_in g w (handle_packet f) = []
read_in g w (handle_stream f) = []
read_in g w (set_data_carrier_detect dcd) = []
read_in g w (set_now samples) = []
read_in g w (set_tx_end_time samples) = []
read_in g w ptt = []
read_in g w read_tx_frame = g (transmission_of w.tnc.radio.state) (gives w)

-- ---- over any calls

unfoldable pub over_all : {A : Type 0} → (World → Call → List A) → World → List Call → List A
over_all f w [] = []
over_all f w (c ∷ cs) = f w c ++ over_all f (after w c) cs
