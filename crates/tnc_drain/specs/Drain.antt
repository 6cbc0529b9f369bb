-- What the whole frames do that the reader holds, from document 01's "The reader's meaning" and "From the host". Assumes nothing.
use Rattle.std.specs.Prelude.{ℕ, List, [], ◌∷◌}
use Rattle.kiss_calls.specs.declared.KissBuffer.{KissBuffer}
use Rattle.kiss_reader.specs.Meaning.{frames_of}
use Rattle.kiss_reader.specs.Reader.{flush}
use Rattle.kiss_calls.specs.Calls.{reader_of}
use Rattle.kiss_calls.specs.Promises.{Box as ReaderBox, after_next_frame}
use Rattle.host_record.specs.declared.Host.{Host}
use Rattle.host_frame.specs.Promises.{Box as HostBox, after}
use Rattle.tnc_drain.specs.declared.Drained.{Drained}

abbrev pub reader_box : KissBuffer → List ℕ → ReaderBox
reader_box b reader = record { buffer = b; store = reader }

abbrev pub host_box : Host → List ℕ → List ℕ → HostBox
host_box h packets streams = record { host = h; packets = packets; streams = streams }

-- the whole frames that the reader holds, but for one that was handed out
unfoldable pub frames_held : ReaderBox → List (List ℕ)
frames_held x = frames_of (flush (reader_of x.buffer x.store))

-- the reader once these were taken, and no other was found
unfoldable pub passed : List (List ℕ) → ReaderBox → ReaderBox
passed [] x = after_next_frame x
passed (f ∷ fs) x = passed fs (after_next_frame x)

-- what these do, one after the other
unfoldable pub all_taken : List (List ℕ) → HostBox → HostBox
all_taken [] w = w
all_taken (f ∷ fs) w = all_taken fs (after w f)

-- frames are taken until none is left
unfoldable pub drained : ReaderBox → HostBox → Drained × List ℕ × List ℕ × List ℕ
drained x w =
    let y = passed (frames_held x) x in let v = all_taken (frames_held x) w in
    (record { buffer = y.buffer; host = v.host }, y.store, v.packets, v.streams)
