-- What is promised of bytes from the host, from document 01. Each is proved in proofs/Kept.antt. Assumes nothing.
use Rattle.std.specs.Prelude.{ℕ, ◌≤◌, false, ◌≢◌, ◌≡◌, List, [], length, take, drop, Ok}
use Rattle.kiss_reader.specs.Meaning.{frames_of}
use Rattle.kiss_reader.specs.Reader.{STORE as READER}
use Rattle.kiss_calls.specs.Calls.{write_number, taken_by}
use Rattle.kiss_calls.specs.Promises.{Box as ReaderBox, new_box, Sound as ReaderSound}
use Rattle.host_frame.specs.Promises.{Box as HostBox, Sound as HostSound}
use Rattle.tnc.specs.declared.KissWritten.{KissWritten}
use Rattle.tnc_drain.specs.Drain.{reader_box, host_box, frames_held, all_taken}
use Rattle.tnc.specs.Bytes.{kiss_written}

-- the reader and what the host can change, each with its stores, as the last call left them
pub record Link : Type 0 where
  pub reader : ReaderBox
  pub host : HostBox

abbrev pub written_at : Link → List ℕ → KissWritten × List ℕ × List ℕ × List ℕ
written_at l buf = kiss_written l.reader.buffer l.host.host buf l.reader.store l.host.packets l.host.streams

abbrev pub left_by : KissWritten × List ℕ × List ℕ × List ℕ → Link
left_by r = record { reader = reader_box r.0.buffer r.1; host = host_box r.0.host r.2 r.3 }

abbrev pub after_write : Link → List ℕ → Link
after_write l buf = left_by (written_at l buf)

-- the stores have their lengths and the records are within their bounds
pub record Sound (l : Link) : Type 0 where
  pub its_reader : ReaderSound l.reader
  pub its_host : HostSound l.host

-- with any answer but 0 no byte was taken, and nothing has changed
abbrev pub RefusedKeepsAll : Type 0
RefusedKeepsAll = (l : Link) (buf : List ℕ) → write_number (written_at l buf).0.answer ≢ 0 → (taken_by (written_at l buf).0.answer ≡ 0) × (after_write l buf ≡ l)

-- a sound link stays sound, whatever the bytes
abbrev pub SoundStaysSound : Type 0
SoundStaysSound = (l : Link) (buf : List ℕ) → Sound l → Sound (after_write l buf)

-- once a write was answered 0, no whole frame is left in the reader
pub record NoneLeft (x : ReaderBox) : Type 0 where
  pub untaken : x.buffer.taken ≡ false
  pub none_held : frames_held x ≡ []

abbrev pub WrittenLeavesNone : Type 0
WrittenLeavesNone = (l : Link) (buf : List ℕ) (k : ℕ) → Sound l → (written_at l buf).0.answer ≡ Ok k → NoneLeft (after_write l buf).reader

-- then the next write is answered 0, and of one byte or more it takes at least one: a link never gets stuck
abbrev pub NeverStuck : Type 0
NeverStuck =
    (l : Link) (buf more : List ℕ) (k : ℕ) → Sound l → (written_at l buf).0.answer ≡ Ok k
    → (n : ℕ) × ((written_at (after_write l buf) more).0.answer ≡ Ok n) × (1 ≤ length more → 1 ≤ n)

-- ---- any writes

-- a new reader, whatever stands in its store
abbrev pub new_link : List ℕ → HostBox → Link
new_link store h = record { reader = new_box store; host = h }

-- writes over the input w: each is offered the next n bytes of what is not yet taken, for any n, until all is taken
pub data Writes : Link → List ℕ → Link → Type 0 where
  over : {l : Link} → Writes l [] l
  write : {l m : Link} {w : List ℕ} {k : ℕ} (n : ℕ) → (written_at l (take n w)).0.answer ≡ Ok k → Writes (after_write l (take n w)) (drop k w) m → Writes l w m

-- cut anywhere, the input does what its frames do, each once, in order
abbrev pub WritesObeyTheFrames : Type 0
WritesObeyTheFrames =
    (store : List ℕ) → length store ≡ READER → (h : HostBox) → HostSound h
    → (w : List ℕ) (m : Link) → Writes (new_link store h) w m → m.host ≡ all_taken (frames_of w) h
