-- The TNC's call for bytes from the host on its record, the channel and the stores: it tests its stores (7) and all of the record (8), and then does what its part does, from
-- document 01's "The TNC" and "Answer numbers". Assumes nothing.
use Rattle.std.specs.Prelude.{ℕ, List, eqb, length, Err}
use Rattle.choice.specs.Pick.{pick}
use Rattle.channel.specs.declared.Channel.{Channel}
use Rattle.kiss_calls.specs.declared.WriteError.{WriteError}
use Rattle.kiss_calls.specs.declared.WriteError.TheVariants.{WrongStore as NoRoom, OutOfBounds as NoState}
use Rattle.kiss_reader.specs.Reader.{STORE as READER}
use Rattle.packets.specs.Queue.{STORE as PACKETS}
use Rattle.streams.specs.Queue.{STORE as STREAMS}
use Rattle.tnc.specs.declared.KissWritten.{KissWritten}
use Rattle.tnc.specs.Bytes.{kiss_written}
use Rattle.tnc_core.specs.declared.Tnc.{Tnc}
use Rattle.tnc_core.specs.Tnc.{sound_tnc}
use Rattle.tnc.specs.declared.TncWritten.{TncWritten}

abbrev pub not_written : WriteError → Tnc → Channel → TncWritten
not_written error t c = record { answer = Err error; tnc = t; channel = c }

-- bytes from the host change the reader, what waits to be sent and the channel; state, message and PTT stay
abbrev pub put_back : Tnc → KissWritten → TncWritten
put_back t w =
    record {
      answer = w.answer;
      tnc = record { buffer = w.buffer; sending = w.host.sending; radio = t.radio; ptt = t.ptt };
      channel = w.host.channel;
    }

unfoldable pub tnc_written : Tnc → Channel → List ℕ → List ℕ → List ℕ → List ℕ → TncWritten × List ℕ × List ℕ × List ℕ
tnc_written t c buf reader packets streams =
    pick (eqb (length reader) READER)
    (pick (eqb (length packets) PACKETS)
    (pick (eqb (length streams) STREAMS)
    (pick (sound_tnc t)
    (let w = kiss_written t.buffer (record { sending = t.sending; channel = c }) buf reader packets streams in (put_back t w.0, w.1, w.2, w.3))
    (not_written NoState t c, reader, packets, streams))
    (not_written NoRoom t c, reader, packets, streams))
    (not_written NoRoom t c, reader, packets, streams))
    (not_written NoRoom t c, reader, packets, streams)
