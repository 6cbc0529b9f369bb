-- The line that an event prints, from document 01's "Event program": kind in hex, answer number, PTT, and the bytes in hex where there are any; one blank between
-- fields, hex in capitals without blanks, numbers decimal. Each line ends with a newline. Assumes nothing.
use Rattle.std.specs.Prelude.{ℕ, ◌+◌, ◌-◌, ◌*◌, ◌/◌, ◌%◌, Bool, List, [], ◌∷◌, ◌++◌, ltb, leb, eqb, length, Result, Ok, Err}
use Rattle.std.proofs.lemmas.List.Edits.{sets}
use Rattle.choice.specs.Pick.{pick}
use Rattle.room.specs.Room.{placed}
use Rattle.event_line.specs.declared.LineError.{LineError}
use Rattle.event_line.specs.declared.LineError.TheVariants.{NoRoom, NumberOver9}

-- the characters
abbrev pub BLANK : ℕ
BLANK = 32

abbrev pub NEWLINE : ℕ
NEWLINE = 10

-- the digit 0
abbrev pub ZERO : ℕ
ZERO = 48

-- the letter A
abbrev pub LETTER : ℕ
LETTER = 65

unfoldable pub hex_digit : ℕ → ℕ
hex_digit n = pick (ltb n 10) (ZERO + n) (LETTER + (n - 10))

-- two digits for a byte, the high one first
unfoldable pub hex_of : List ℕ → List ℕ
hex_of [] = []
hex_of (b ∷ bs) = hex_digit (b / 16) ∷ hex_digit (b % 16) ∷ hex_of bs

unfoldable pub flag : Bool → ℕ
flag on = pick on (ZERO + 1) ZERO

-- what follows PTT: a line without bytes ends after PTT
unfoldable pub tail_of : List ℕ → List ℕ
tail_of [] = NEWLINE ∷ []
tail_of (b ∷ bs) = BLANK ∷ (hex_of (b ∷ bs) ++ (NEWLINE ∷ []))

-- the line of an event whose number has one digit
unfoldable pub line_of : ℕ → ℕ → Bool → List ℕ → List ℕ
line_of kind number ptt bytes = hex_of (kind ∷ []) ++ (BLANK ∷ (ZERO + number) ∷ BLANK ∷ flag ptt ∷ tail_of bytes)

-- the place behind a line that is stored from `at` on, and the room
abbrev pub stored : List ℕ → ℕ → List ℕ → ℕ × List ℕ
stored l at d = (at + length l, sets d at l)

-- whether the line with so many bytes has room
unfoldable pub fits : ℕ → ℕ → Bool
fits count room = leb (pick (eqb count 0) 7 (8 + 2 * count)) room

-- the answer of `put_line`, and the room after it: what lies before and beyond the line stays
unfoldable pub written : ℕ → ℕ → Bool → List ℕ → List ℕ → ℕ → Result ℕ LineError × List ℕ
written kind number ptt bytes d at =
    pick (leb number 9)
    (pick (leb (at + length (line_of kind number ptt bytes)) (length d))
    (Ok (at + length (line_of kind number ptt bytes)), placed (line_of kind number ptt bytes) d at)
    ((Err NoRoom), d))
    ((Err NumberOver9), d)
