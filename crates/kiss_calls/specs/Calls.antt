-- The reader's calls on its record and its store of 1,713 bytes: answer, record and every byte of the store after each, from document 01's "Answer numbers"
-- and "Bounds for 8". Assumes nothing.
use Rattle.std.specs.Prelude.{ℕ, Bool, true, List, [], leb, eqb, length, take, Result, Option, Ok, None, Some, Err}
use Rattle.std.proofs.Math.Option.{Option as Maybe}
use Rattle.choice.specs.Pick.{pick, and}
use Rattle.room.specs.Room.{over}
use Rattle.kiss_calls.specs.declared.KissBuffer.{KissBuffer}
use Rattle.kiss_calls.specs.declared.WriteError.{WriteError}
use Rattle.kiss_calls.specs.declared.WriteError.TheVariants.{Full, WrongStore, OutOfBounds}
use Rattle.kiss_calls.specs.declared.Written.{Written}
use Rattle.room.specs.declared.LentError.{LentError}
use Rattle.room.specs.declared.LentError.TheVariants.{OutOfBounds as NoState, WrongStore as NoStore}
use Rattle.kiss_calls.specs.declared.NextFrame.{NextFrame}
use Rattle.kiss_reader.specs.Reader.{Reader, STORE, front, next, after_next, refused, takes, after_write}
use Rattle.kiss_reader.specs.Front.{stands_first, or_empty, length_of}

-- the reader that a record and a store stand for, and the record of a reader
abbrev pub reader_of : KissBuffer → List ℕ → Reader
reader_of b store = record { held = take b.filled store; taken = b.taken }

abbrev pub buffer_of : Reader → KissBuffer
buffer_of r = record { filled = length r.held; taken = r.taken }

-- filled at most 1,713, and a frame marked as taken stands first
unfoldable pub sound_buffer : KissBuffer → List ℕ → Bool
sound_buffer b store = and (leb b.filled STORE) (pick b.taken (stands_first (take b.filled store)) true)

-- ---- write

abbrev pub not_written : WriteError → KissBuffer → List ℕ → Written × List ℕ
not_written error b store = (record { answer = Err error; buffer = b }, store)

unfoldable pub writes : Reader → KissBuffer → List ℕ → List ℕ → Written × List ℕ
writes r b offered store =
    pick (refused r) (not_written Full b store)
    (record { answer = Ok (takes r offered); buffer = buffer_of (after_write r offered) }, over (after_write r offered).held store)

unfoldable pub written : KissBuffer → List ℕ → List ℕ → Written × List ℕ
written b offered store =
    pick (eqb (length store) STORE)
    (pick (sound_buffer b store) (writes (reader_of b store) b offered store) (not_written OutOfBounds b store))
    (not_written WrongStore b store)

-- how many of the offered bytes a write took
abbrev pub taken_by : Result ℕ WriteError → ℕ
taken_by (Ok n) = n
taken_by (Err error) = 0

-- ---- next_frame

abbrev pub next_answer : Maybe (List ℕ) → Result (Option ℕ) LentError
next_answer f = Ok (length_of f)

abbrev pub not_sought : Result (Option ℕ) LentError → KissBuffer → List ℕ → NextFrame × List ℕ
not_sought answer b store = (record { answer = answer; buffer = b }, store)

unfoldable pub found : Reader → List ℕ → NextFrame × List ℕ
found r store = (record { answer = next_answer (next r); buffer = buffer_of (after_next r) }, over (after_next r).held store)

unfoldable pub next_frame : KissBuffer → List ℕ → NextFrame × List ℕ
next_frame b store =
    pick (eqb (length store) STORE)
    (pick (sound_buffer b store) (found (reader_of b store) store) (not_sought (Err NoState) b store))
    (not_sought (Err NoStore) b store)

-- ---- frame

-- the frame that was handed out, and no byte where none was or the call is refused
unfoldable pub frame_in : KissBuffer → List ℕ → List ℕ
frame_in b store =
    pick (and (eqb (length store) STORE) (and (sound_buffer b store) b.taken)) (or_empty (front (take b.filled store))) []

-- ---- document 01's numbers for the answers

abbrev pub write_number : Result ℕ WriteError → ℕ
write_number (Ok n) = 0
write_number (Err Full) = 5
write_number (Err WrongStore) = 7
write_number (Err OutOfBounds) = 8

abbrev pub next_number : Result (Option ℕ) LentError → ℕ
next_number (Ok (Some n)) = 0
next_number (Ok None) = 0
next_number (Err NoStore) = 7
next_number (Err NoState) = 8
