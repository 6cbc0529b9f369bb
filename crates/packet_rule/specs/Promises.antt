-- What is promised of the packet queue's calls together, from document 01's queue rule. Each is proved in proofs/Kept.antt. Assumes nothing.
use Rattle.std.specs.Prelude.{ℕ, true, false, ◌≢◌, ◌≡◌, List, [], ◌∷◌, ◌++◌, length, replicate, Ok, Some, None}
use Rattle.protocol.specs.declared.PacketFrameCounter.TheVariants.{Frame, FinalFrame}
use Rattle.protocol.specs.declared.ModulatorFrame.TheVariants.{EndOfTransmission}
use Rattle.packets.specs.declared.PacketQueue.{PacketQueue}
use Rattle.packets.specs.declared.Pushed.{Pushed}
use Rattle.packets.specs.declared.PacketRead.{PacketRead}
use Rattle.packets.specs.Frames.{AirFrame, setup, piece, joined}
use Rattle.packets.specs.Queue.{Made, no_packet, new_queue, made_basic, made_full, is_empty, pushed_basic, pushed_full, read_next, frames_in}
use Rattle.packets.specs.Promises.{Sound}
use Rattle.packet_rule.specs.Left.{left_of, accepted_by}

-- a new queue has nothing to give, whatever stands in its store
abbrev pub NewHasNone : Type 0
NewHasNone = (store : List ℕ) → left_of new_queue store ≡ []

-- ---- pushes

-- the queue's array has its four places, as its type says
abbrev pub Four : PacketQueue → Type 0
Four q = length q.places ≡ 4

-- so has a new queue
abbrev pub NewHasFour : Type 0
NewHasFour = Four new_queue

-- and every call leaves four
abbrev pub FourStayFour : Type 0
FourStayFour =
    (q : PacketQueue) (store : List ℕ) → Four q
    → ((frame : List ℕ) → Four (pushed_basic q frame store).0.queue × Four (pushed_full q frame store).0.queue) × Four (read_next q store).queue

-- behind what was left stand the frames of the packet that was accepted, and nothing else changed
abbrev pub Adds : PacketQueue → List ℕ → Made → Pushed × List ℕ → Type 0
Adds q store made r = left_of r.0.queue r.1 ≡ left_of q store ++ joined (accepted_by r.0.answer made)

-- a push adds the frames of the packet that it accepts behind all that is left
abbrev pub PushAdds : Type 0
PushAdds =
    (q : PacketQueue) (store frame : List ℕ) → Four q → Sound q store
    → Adds q store (made_basic frame) (pushed_basic q frame store) × Adds q store (made_full frame) (pushed_full q frame store)

-- ---- reads

-- the frames of packets that a read gives: one or none
abbrev pub given : PacketRead → List AirFrame
given r = frames_in r.answer

-- a read takes what it gives from the front of what is left, and nothing else
abbrev pub ReadTakes : Type 0
ReadTakes = (q : PacketQueue) (store : List ℕ) → Sound q store → left_of q store ≡ given (read_next q store) ++ left_of (read_next q store).queue store

-- an end of transmission comes only when nothing is left
abbrev pub EndIsUsedUp : Type 0
EndIsUsedUp = (q : PacketQueue) (store : List ℕ) → Sound q store → (read_next q store).answer ≡ Ok (Some EndOfTransmission) → left_of q store ≡ []

-- so does the answer that there is nothing
abbrev pub NothingIsUsedUp : Type 0
NothingIsUsedUp = (q : PacketQueue) (store : List ℕ) → Sound q store → (read_next q store).answer ≡ Ok None → left_of q store ≡ []

-- while something is left a read gives a frame, and so no end
abbrev pub SomethingIsGiven : Type 0
SomethingIsGiven = (q : PacketQueue) (store : List ℕ) → Sound q store → left_of q store ≢ [] → given (read_next q store) ≢ []

-- ---- a place is held until the read behind its last frame

-- a queue in which a place is held is not emptied by a push, nor by a read that gives a frame
abbrev pub PushNeverEmpties : Type 0
PushNeverEmpties =
    (q : PacketQueue) (store frame : List ℕ) → is_empty q ≡ false
    → (is_empty (pushed_basic q frame store).0.queue ≡ false) × (is_empty (pushed_full q frame store).0.queue ≡ false)

abbrev pub FrameKeepsItsPlace : Type 0
FrameKeepsItsPlace = (q : PacketQueue) (store : List ℕ) → given (read_next q store) ≢ [] → is_empty (read_next q store).queue ≡ false

-- and while a place is held a read gives a frame or the end, and never nothing
abbrev pub HeldIsAnswered : Type 0
HeldIsAnswered = (q : PacketQueue) (store : List ℕ) → is_empty q ≡ false → (read_next q store).answer ≢ Ok None

-- ---- an example

-- one packet of 26 bytes waits: an LSF of sevens, and fives
abbrev pub one_waits : PacketQueue
one_waits = record { places = record { due = true; len = 26; sent = 0 } ∷ replicate 3 no_packet; next = 1; curr = 0; full = false }

abbrev pub one_store : List ℕ
one_store = replicate 30 7 ++ replicate 3390 5

-- its LSF is left, 25 bytes with index 0, and one byte as the final frame
abbrev pub OneIsLeft : Type 0
OneIsLeft =
    Sound one_waits one_store
    × (left_of one_waits one_store
    ≡ setup (replicate 30 7)
    ∷ piece (record { payload = replicate 25 5; counter = Frame 0 })
    ∷ piece (record { payload = 5 ∷ replicate 24 0; counter = FinalFrame 1 })
    ∷ [])
