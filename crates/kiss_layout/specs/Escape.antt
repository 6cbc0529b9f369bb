-- The special bytes of the KISS paper (Chepponis and Karn, "The KISS TNC") and the escaping of bytes. Assumes nothing.
use Rattle.std.specs.Prelude.{ℕ, List, [], ◌∷◌, ◌++◌, eqb, length, Result, Ok, Err}
use Rattle.choice.specs.Pick.{pick}
use Rattle.room.specs.Room.{fits, over, no_room, no_room_number}
use Rattle.room.specs.declared.NoRoom.{NoRoom}

abbrev pub FEND : ℕ
FEND = 0xC0

abbrev pub FESC : ℕ
FESC = 0xDB

abbrev pub TFEND : ℕ
TFEND = 0xDC

abbrev pub TFESC : ℕ
TFESC = 0xDD

-- FEND is written as FESC TFEND, FESC as FESC TFESC, any other byte as itself
unfoldable pub esc_byte : ℕ → List ℕ
esc_byte b = pick (eqb b FEND) (FESC ∷ TFEND ∷ []) (pick (eqb b FESC) (FESC ∷ TFESC ∷ []) (b ∷ []))

-- bytes escaped, one after the other
unfoldable pub esc : List ℕ → List ℕ
esc [] = []
esc (b ∷ s) = esc_byte b ++ esc s

-- the answer of `escape`, and the room after it
unfoldable pub escaped : List ℕ → List ℕ → Result ℕ NoRoom × List ℕ
escaped s d = pick (fits (esc s) d) (Ok (length (esc s)), over (esc s) d) (Err no_room, d)

-- document 01's number of an answer
abbrev pub escaped_number : Result ℕ NoRoom → ℕ
escaped_number (Ok n) = 0
escaped_number (Err e) = no_room_number
