-- The events on standard input, from document 01's "Event program": one byte of kind, then a body whose length the kind fixes. Assumes nothing.
use Rattle.std.specs.Prelude.{ℕ, ◌+◌, ◌-◌, Bool, List, ltb, leb, eqb, length, get_or}
use Rattle.choice.specs.Pick.{pick, and}
use Rattle.event_input.specs.declared.Next.{Next}
use Rattle.event_input.specs.declared.Next.TheVariants.{Complete, Cut, Unknown, End}

-- the nine kinds
abbrev pub HOST : ℕ
HOST = 1

abbrev pub CARRIER : ℕ
CARRIER = 2

abbrev pub CLOCK : ℕ
CLOCK = 3

abbrev pub ENDTIME : ℕ
ENDTIME = 4

abbrev pub LSF : ℕ
LSF = 5

abbrev pub PACKET : ℕ
PACKET = 6

abbrev pub STREAM : ℕ
STREAM = 7

abbrev pub READTX : ℕ
READTX = 8

abbrev pub READHOST : ℕ
READHOST = 9

unfoldable pub known : ℕ → Bool
known k = and (leb HOST k) (leb k READHOST)

-- the length of a kind's body; 08 has none, and of a kind that is not known none is read
unfoldable pub body_len : ℕ → ℕ
body_len k =
    pick (eqb k HOST) 1
    (pick (eqb k CARRIER) 1
    (pick (eqb k CLOCK) 8
    (pick (eqb k ENDTIME) 4
    (pick (eqb k LSF) 30 (pick (eqb k PACKET) 26 (pick (eqb k STREAM) 25 (pick (eqb k READHOST) 1 0)))))))

-- what stands at a place: a whole event with the places of its body's first byte and of the next event, a cut one, a kind that is not known, or the end
unfoldable pub next_at : List ℕ → ℕ → Next
next_at s at =
    pick (ltb at (length s))
    (pick (known (get_or s at 0))
    (pick (leb (body_len (get_or s at 0)) (length s - (at + 1))) (Complete (get_or s at 0) (at + 1) (at + 1 + body_len (get_or s at 0))) (Cut (get_or s at 0)))
    (Unknown (get_or s at 0)))
    End
