-- The answers of the calls that a host in C or Rust links, as document 01's numbers ("Answer numbers") with a count beside them. Assumes nothing.
use Rattle.std.specs.Prelude.{ℕ, List, Result, Ok, Err, Option, Some, None}
use Rattle.room.specs.declared.NoRoom.{NoRoom}
use Rattle.kiss_layout.specs.declared.BuildError.{BuildError}
use Rattle.kiss_layout.specs.declared.BuildError.TheVariants.{PayloadTooBig, LsfWrongSize, OutOfRange, NoRoom as NoRoomFor}
use Rattle.room.specs.declared.LentError.{LentError}
use Rattle.room.specs.declared.LentError.TheVariants.{WrongStore, OutOfBounds}
use Rattle.kiss_calls.specs.declared.KissBuffer.{KissBuffer}
use Rattle.kiss_calls.specs.declared.Written.{Written}
use Rattle.kiss_calls.specs.declared.NextFrame.{NextFrame}
use Rattle.kiss_calls.specs.Calls.{write_number, taken_by}
use Rattle.link_numbers.specs.declared.Counted.{Counted}
use Rattle.link_numbers.specs.declared.ReaderAnswer.{ReaderAnswer}

abbrev pub counted : ℕ → ℕ → Counted
counted number count = record { number = number; count = count }

-- ---- escaping and building: the bytes written, and 7 where there is no room

abbrev pub escape_count : Result ℕ NoRoom → Counted
escape_count (Ok n) = counted 0 n
escape_count (Err e) = counted 7 0

abbrev pub counted_escape : Result ℕ NoRoom × List ℕ → Counted × List ℕ
counted_escape r = (escape_count r.0, r.1)

abbrev pub build_count : Result ℕ BuildError → Counted
build_count (Ok n) = counted 0 n
build_count (Err PayloadTooBig) = counted 1 0
build_count (Err LsfWrongSize) = counted 2 0
build_count (Err OutOfRange) = counted 6 0
build_count (Err NoRoomFor) = counted 7 0

abbrev pub counted_build : Result ℕ BuildError × List ℕ → Counted × List ℕ
counted_build r = (build_count r.0, r.1)

-- ---- the reader: the bytes taken, and the length of the frame at the store's start

abbrev pub told : ℕ → ℕ → KissBuffer → ReaderAnswer
told number count b = record { number = number; count = count; reader = b }

abbrev pub counted_write : Written × List ℕ → ReaderAnswer × List ℕ
counted_write r = (told (write_number r.0.answer) (taken_by r.0.answer) r.0.buffer, r.1)

abbrev pub next_count : Result (Option ℕ) LentError → KissBuffer → ReaderAnswer
next_count (Ok (Some n)) b = told 0 n b
next_count (Ok None) b = told 0 0 b
next_count (Err WrongStore) b = told 7 0 b
next_count (Err OutOfBounds) b = told 8 0 b

abbrev pub counted_next : NextFrame × List ℕ → ReaderAnswer × List ℕ
counted_next r = (next_count r.0.answer r.0.buffer, r.1)
