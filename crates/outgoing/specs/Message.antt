-- The message to the host and its reading in pieces, from document 01 ("read ≤ length ≤ 1,713") and m17core's read_kiss. Assumes nothing.
use Rattle.std.specs.Prelude.{ℕ, ◌+◌, ◌-◌, min, Bool, List, leb, eqb, length, take, drop, Result, Ok, Err}
use Rattle.choice.specs.Pick.{pick, and}
use Rattle.room.specs.Room.{over, lent_number}
use Rattle.room.specs.declared.LentError.{LentError}
use Rattle.room.specs.declared.LentError.TheVariants.{WrongStore, OutOfBounds}
use Rattle.outgoing.specs.declared.Outgoing.{Outgoing}
use Rattle.outgoing.specs.declared.HostRead.{HostRead}

abbrev pub STORE : ℕ
STORE = 1713

abbrev pub no_message : Outgoing
no_message = record { len = 0; read = 0 }

unfoldable pub sound_message : Outgoing → Bool
sound_message o = and (leb o.read o.len) (leb o.len STORE)

-- what has not been read of the message that stands at the store's start
unfoldable pub left : Outgoing → List ℕ → List ℕ
left o store = take (o.len - o.read) (drop o.read store)

-- a message that was read to its end is gone
unfoldable pub read_up_to : Outgoing → ℕ → Outgoing
read_up_to o end = pick (eqb end o.len) no_message (record { len = o.len; read = end })

-- how many bytes go into a target: the smaller of those left and the room
abbrev pub given : Outgoing → List ℕ → ℕ
given o target = min (o.len - o.read) (length target)

abbrev pub not_read : LentError → Outgoing → List ℕ → HostRead × List ℕ
not_read e o target = (record { answer = Err e; outgoing = o }, target)

unfoldable pub host_read : Outgoing → List ℕ → List ℕ → HostRead × List ℕ
host_read o store target =
    pick (eqb (length store) STORE)
    (pick (sound_message o)
    (record { answer = Ok (given o target); outgoing = read_up_to o (o.read + given o target) }, over (take (given o target) (drop o.read store)) target)
    (not_read OutOfBounds o target))
    (not_read WrongStore o target)

-- how many bytes came
abbrev pub read_count : Result ℕ LentError → ℕ
read_count (Ok n) = n
read_count (Err e) = 0

-- document 01's numbers for the answers
abbrev pub host_number : Result ℕ LentError → ℕ
host_number (Ok n) = 0
host_number (Err e) = lent_number e
