-- What the TNC does with bytes from the host, from document 01's "The reader's meaning", "From the host", "Answer numbers" and "Bounds for 8". Assumes nothing.
use Rattle.std.specs.Prelude.{ℕ, List, eqb, length, Result, Ok, Err}
use Rattle.choice.specs.Pick.{pick}
use Rattle.kiss_calls.specs.declared.KissBuffer.{KissBuffer}
use Rattle.kiss_calls.specs.declared.WriteError.{WriteError}
use Rattle.kiss_calls.specs.declared.WriteError.TheVariants.{WrongStore, OutOfBounds}
use Rattle.kiss_calls.specs.declared.Written.{Written}
use Rattle.kiss_reader.specs.Reader.{STORE as READER}
use Rattle.kiss_calls.specs.Calls.{written}
use Rattle.kiss_calls.specs.Promises.{Box as ReaderBox}
use Rattle.packets.specs.Queue.{STORE as PACKETS}
use Rattle.streams.specs.Queue.{STORE as STREAMS}
use Rattle.host_record.specs.declared.Host.{Host}
use Rattle.host_record.specs.Host.{sound_host}
use Rattle.host_frame.specs.Promises.{Box as HostBox}
use Rattle.tnc_drain.specs.Drain.{reader_box, host_box, drained}
use Rattle.tnc.specs.declared.KissWritten.{KissWritten}

abbrev pub refused : WriteError → KissBuffer → Host → KissWritten
refused error b h = record { answer = Err error; buffer = b; host = h }

-- after what the reader answered to the bytes that it was offered: only where it took them there is more to do
abbrev pub onward : Result ℕ WriteError → ReaderBox → HostBox → KissWritten × List ℕ × List ℕ × List ℕ
onward (Ok count) x w = let d = drained x w in (record { answer = Ok count; buffer = d.0.buffer; host = d.0.host }, d.1, d.2, d.3)
onward (Err error) x w = (refused error x.buffer w.host, x.store, w.packets, w.streams)

abbrev pub offered : Written × List ℕ → HostBox → KissWritten × List ℕ × List ℕ × List ℕ
offered r w = onward r.0.answer (reader_box r.0.buffer r.1) w

unfoldable pub kiss_written : KissBuffer → Host → List ℕ → List ℕ → List ℕ → List ℕ → KissWritten × List ℕ × List ℕ × List ℕ
kiss_written b h buf reader packets streams =
    pick (eqb (length reader) READER)
    (pick (eqb (length packets) PACKETS)
    (pick (eqb (length streams) STREAMS)
    (pick (sound_host h) (offered (written b buf reader) (host_box h packets streams)) (refused OutOfBounds b h, reader, packets, streams))
    (refused WrongStore b h, reader, packets, streams))
    (refused WrongStore b h, reader, packets, streams))
    (refused WrongStore b h, reader, packets, streams)
