-- What the packet queue has still to give: the frames of its waiting packets that it has not yet given, in order of acceptance, and the packet that a push accepts.
-- From document 01's queue rule: over any calls the frames read "are a beginning of the accepted packets' frame lists joined in order of acceptance". Assumes nothing.
use Rattle.std.specs.Prelude.{ℕ, zero, suc, ◌+◌, ◌-◌, ◌*◌, ◌/◌, ◌%◌, Bool, List, [], ◌∷◌, ◌++◌, get_or, Result, Ok, Err}
use Rattle.choice.specs.Pick.{pick}
use Rattle.protocol.specs.Lsf.{part}
use Rattle.packets.specs.declared.Place.{Place}
use Rattle.packets.specs.declared.PacketQueue.{PacketQueue}
use Rattle.packets.specs.declared.Push.{Push}
use Rattle.kiss_layout.specs.declared.PushError.{PushError}
use Rattle.packets.specs.declared.Push.TheVariants.{Queued, Ignored}
use Rattle.kiss_layout.specs.declared.PushError.TheVariants.{MalformedKissFrame, WrongStore, OutOfBounds}
use Rattle.packets.specs.Frames.{Packet, AirFrame, setup, data_frames}
use Rattle.packets.specs.Queue.{ROOM, no_packet, Made, malformed, unfit, overlong, fills, packet_in}

-- ---- what is left

-- its LSF, where the packet at place k still has to give it
unfoldable pub lsf_left : ℕ → Place → List ℕ → List AirFrame
lsf_left k p store = pick p.due (setup (part (ROOM * k) 30 store) ∷ []) []

-- the frames of its data from what was sent on
unfoldable pub data_left : ℕ → Place → List ℕ → List AirFrame
data_left k p store = data_frames (p.sent / 25) (part (ROOM * k + 30 + p.sent) (p.len - p.sent) store)

unfoldable pub rest_at : ℕ → Place → List ℕ → List AirFrame
rest_at k p store = lsf_left k p store ++ data_left k p store

-- how many places wait: all four in a full queue, else those from place `curr` on that come before place `next`
unfoldable pub waiting : Bool → ℕ → ℕ → ℕ
waiting full next curr = pick full 4 ((next + 4 - curr) % 4)

-- the frames at n of the four places, from place k on; behind place 3 comes place 0
unfoldable pub in_turn : (ℕ → List AirFrame) → ℕ → ℕ → List AirFrame
in_turn f zero k = []
in_turn f (suc n) k = f k ++ in_turn f n ((k + 1) % 4)

abbrev pub rest_in : PacketQueue → List ℕ → ℕ → List AirFrame
rest_in q store k = rest_at k (get_or q.places k no_packet) store

unfoldable pub left_of : PacketQueue → List ℕ → List AirFrame
left_of q store = in_turn (rest_in q store) (waiting q.full q.next q.curr) q.curr

-- ---- what is accepted

-- the packet in what a frame comes to, where it fills a room
abbrev pub filled : Made → List Packet
filled malformed = []
filled unfit = []
filled overlong = []
filled (fills room len) = packet_in room len ∷ []

-- the packets that a push with that answer accepted: one or none
abbrev pub accepted_by : Result Push PushError → Made → List Packet
accepted_by (Ok Queued) made = filled made
accepted_by (Ok Ignored) made = []
accepted_by (Err MalformedKissFrame) made = []
accepted_by (Err WrongStore) made = []
accepted_by (Err OutOfBounds) made = []
