-- What is promised of the message to the host, from document 01 under "To the host" and "Answer numbers". Each is proved in proofs/Kept.antt. Assumes nothing.
use Rattle.std.specs.Prelude.{ℕ, ◌≤◌, true, ◌≢◌, ◌≡◌, List, ◌++◌, length, take, Ok}
use Rattle.outgoing.specs.declared.Outgoing.{Outgoing}
use Rattle.outgoing.specs.Message.{STORE, no_message, sound_message, left, host_read, read_count, host_number}

abbrev pub NewIsSound : Type 0
NewIsSound = sound_message no_message ≡ true

abbrev pub SoundStaysSound : Type 0
SoundStaysSound = (o : Outgoing) (store target : List ℕ) → sound_message o ≡ true → sound_message (host_read o store target).0.outgoing ≡ true

-- with any answer but 0 the record and the target are as they were
abbrev pub RefusedKeepsAll : Type 0
RefusedKeepsAll =
    (o : Outgoing) (store target : List ℕ) → host_number (host_read o store target).0.answer ≢ 0
    → ((host_read o store target).0.outgoing ≡ o) × ((host_read o store target).1 ≡ target)

-- what a read gives and what is then left make what was left: nothing is lost, doubled or turned round, however small the pieces
abbrev pub ReadGivesTheNext : Type 0
ReadGivesTheNext =
    (o : Outgoing) (store target : List ℕ) → length store ≡ STORE → sound_message o ≡ true
    → take (read_count (host_read o store target).0.answer) (host_read o store target).1 ++ left (host_read o store target).0.outgoing store ≡ left o store

-- a target that has the room takes all that is left, and the message is gone
abbrev pub RoomTakesAll : Type 0
RoomTakesAll =
    (o : Outgoing) (store target : List ℕ) → length store ≡ STORE → sound_message o ≡ true → length (left o store) ≤ length target
    → ((host_read o store target).0.answer ≡ Ok (length (left o store))) × ((host_read o store target).0.outgoing ≡ no_message)
