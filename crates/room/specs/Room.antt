-- Bytes in a room that a caller lends, from document 01's answer 7 and "Bytes of a room beyond a built frame or a payload's count stay". Assumes nothing.
use Rattle.std.specs.Prelude.{ℕ, ◌+◌, ◌-◌, Bool, List, ◌++◌, leb, length, take, drop, Result, Ok, Err}
use Rattle.choice.specs.Pick.{pick, and}
use Rattle.room.specs.declared.NoRoom.{NoRoom}
use Rattle.room.specs.declared.LentError.{LentError}
use Rattle.room.specs.declared.LentError.TheVariants.{WrongStore, OutOfBounds}

-- the one value of its type
abbrev pub no_room : NoRoom
no_room = record {}

-- whether xs fits into the room d; an exact fit is one
abbrev pub fits : List ℕ → List ℕ → Bool
fits xs d = leb (length xs) (length d)

-- the room d with xs over its start: what lies beyond stays
abbrev pub over : List ℕ → List ℕ → List ℕ
over xs d = xs ++ drop (length xs) d

-- the room d with xs from place at on: what lies before and beyond stays
abbrev pub placed : List ℕ → List ℕ → ℕ → List ℕ
placed xs d at = take at d ++ xs ++ drop (at + length xs) d

-- the answer of `copy_in`, and the room after it
unfoldable pub copied : List ℕ → List ℕ → ℕ → Result (Unit {0}) NoRoom × List ℕ
copied xs d at = pick (leb (at + length xs) (length d)) (Ok tt, placed xs d at) (Err no_room, d)

-- the answer of `shift`, and the room after it: the bytes of d from place `from` up to place `to` stand over its start
unfoldable pub shifted : List ℕ → ℕ → ℕ → Result (Unit {0}) NoRoom × List ℕ
shifted d from to = pick (and (leb from to) (leb to (length d))) (Ok tt, over (take (to - from) (drop from d)) d) (Err no_room, d)

-- document 01's numbers of what is refused
abbrev pub no_room_number : ℕ
no_room_number = 7

abbrev pub lent_number : LentError → ℕ
lent_number WrongStore = 7
lent_number OutOfBounds = 8

-- and of an answer
abbrev pub number_of : Result (Unit {0}) NoRoom → ℕ
number_of (Ok done) = 0
number_of (Err e) = no_room_number
