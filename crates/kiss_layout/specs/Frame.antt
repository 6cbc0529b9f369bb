-- A KISS frame, from the KISS paper and document 01 under "KISS bytes", and how it goes into a room. Assumes nothing.
use Rattle.std.specs.Prelude.{ℕ, List, [], ◌∷◌, ◌++◌, length, Result, Ok, Err}
use Rattle.choice.specs.Pick.{pick}
use Rattle.room.specs.Room.{fits, over}
use Rattle.kiss_layout.specs.Escape.{FEND, esc}
use Rattle.kiss_layout.specs.declared.BuildError.{BuildError}
use Rattle.kiss_layout.specs.declared.BuildError.TheVariants.{NoRoom, PayloadTooBig, LsfWrongSize, OutOfRange}

-- FEND, header, escaped content, FEND
unfoldable pub frame : ℕ → List ℕ → List ℕ
frame header content = FEND ∷ header ∷ esc content ++ (FEND ∷ [])

-- a frame put at the start of a room, if it fits: the answer, and the room after it
unfoldable pub put_frame : List ℕ → List ℕ → Result ℕ BuildError × List ℕ
put_frame f d = pick (fits f d) (Ok (length f), over f d) (Err NoRoom, d)

-- document 01's number of a builder's answer
abbrev pub built_number : Result ℕ BuildError → ℕ
built_number (Ok n) = 0
built_number (Err PayloadTooBig) = 1
built_number (Err LsfWrongSize) = 2
built_number (Err OutOfRange) = 6
built_number (Err NoRoom) = 7
