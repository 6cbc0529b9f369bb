-- What the TNC does with one KISS frame from the host, from document 01's "From the host", "Answer numbers" and "Bounds for 8". Assumes nothing.
use Rattle.std.specs.Prelude.{ℕ, List, ltb, eqb, length, Result, Err, Ok}
use Rattle.choice.specs.Pick.{pick}
use Rattle.kiss_layout.specs.declared.KissCommand.TheVariants.{DataFrame, TxDelay, P, FullDuplex}
use Rattle.kiss_layout.specs.declared.KissCommand.{KissCommand}
use Rattle.kiss_layout.specs.declared.KissError.{KissError}
use Rattle.room.specs.declared.LentError.{LentError}
use Rattle.room.specs.declared.LentError.TheVariants.{OutOfBounds, WrongStore}
use Rattle.kiss_layout.specs.Read.{port_read, command_read}
use Rattle.packets.specs.Queue.{STORE as PACKETS}
use Rattle.streams.specs.Queue.{STORE as STREAMS}
use Rattle.host_record.specs.declared.Host.{Host}
use Rattle.host_record.specs.Host.{sound_host}
use Rattle.host_frame.specs.Setting.{setting_in, delay_set, duplex_of}
use Rattle.host_frame.specs.Data.{data_taken}
use Rattle.host_frame.specs.declared.FrameTaken.{FrameTaken}

-- other settings are ignored
abbrev pub by_command : Result KissCommand KissError → ℕ → Host → List ℕ → List ℕ → List ℕ → Host × List ℕ × List ℕ
by_command (Err e) port h frame packets streams = (h, packets, streams)
by_command (Ok DataFrame) port h frame packets streams = data_taken port h frame packets streams
by_command (Ok TxDelay) port h frame packets streams = (delay_set (setting_in frame) h, packets, streams)
by_command (Ok P) port h frame packets streams = (h, packets, streams)
by_command (Ok FullDuplex) port h frame packets streams = (duplex_of (setting_in frame) h, packets, streams)

-- ports 0, 1, 2 only
unfoldable pub obeyed_on : ℕ → Host → List ℕ → List ℕ → List ℕ → Host × List ℕ × List ℕ
obeyed_on port h frame packets streams = pick (ltb 2 port) (h, packets, streams) (by_command (command_read frame) port h frame packets streams)

abbrev pub by_port : Result ℕ KissError → Host → List ℕ → List ℕ → List ℕ → Host × List ℕ × List ℕ
by_port (Err e) h frame packets streams = (h, packets, streams)
by_port (Ok port) h frame packets streams = obeyed_on port h frame packets streams

unfoldable pub obeyed : Host → List ℕ → List ℕ → List ℕ → Host × List ℕ × List ℕ
obeyed h frame packets streams = by_port (port_read frame) h frame packets streams

-- ---- the call

abbrev pub answered : Result (Unit {0}) LentError → Host × List ℕ × List ℕ → FrameTaken × List ℕ × List ℕ
answered a w = (record { answer = a; host = w.0 }, w.1, w.2)

unfoldable pub frame_taken : Host → List ℕ → List ℕ → List ℕ → FrameTaken × List ℕ × List ℕ
frame_taken h frame packets streams =
    pick (eqb (length packets) PACKETS)
    (pick (eqb (length streams) STREAMS)
    (pick (sound_host h) (answered (Ok tt) (obeyed h frame packets streams)) (answered (Err OutOfBounds) (h, packets, streams)))
    (answered (Err WrongStore) (h, packets, streams)))
    (answered (Err WrongStore) (h, packets, streams))

-- document 01's numbers for the answers
abbrev pub frame_number : Result (Unit {0}) LentError → ℕ
frame_number (Ok done) = 0
frame_number (Err WrongStore) = 7
frame_number (Err OutOfBounds) = 8
