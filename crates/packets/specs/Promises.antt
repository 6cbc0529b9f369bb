-- What is promised of the packet queue over its calls, from document 01. Each is proved in proofs/Kept.antt. Assumes nothing.
use Rattle.std.specs.Prelude.{ℕ, ◌+◌, ◌≤◌, Bool, true, false, ◌≢◌, ◌≡◌, List, ◌∷◌, length, take, Ok, Some}
use Rattle.crc.specs.Crc.{sealed}
use Rattle.protocol.specs.Basic.{basic_lsf}
use Rattle.protocol.specs.declared.ModulatorFrame.{ModulatorFrame}
use Rattle.protocol.specs.declared.ModulatorFrame.TheVariants.{Preamble, Lsf, Stream, Packet as PacketPiece, EndOfTransmission}
use Rattle.packets.specs.declared.PacketQueue.{PacketQueue}
use Rattle.packets.specs.declared.Pushed.{Pushed}
use Rattle.packets.specs.Frames.{Packet, frames_of, rejoin}
use Rattle.packets.specs.Queue.{STORE, RAW, new_queue, sound_queue, basic_room, packet_in, pushed_basic, pushed_full, read_next, push_number, read_number}

-- a push that was refused left the record and all bytes of the store as they were
abbrev pub KeptBy : PacketQueue → List ℕ → Pushed × List ℕ → Type 0
KeptBy q store r = push_number r.0.answer ≢ 0 → (r.0.queue ≡ q) × (r.1 ≡ store)

-- with any answer but 0 the record and all bytes of the store are as they were
abbrev pub RefusedKeepsAll : Type 0
RefusedKeepsAll =
    (q : PacketQueue) (store : List ℕ) → ((frame : List ℕ) → KeptBy q store (pushed_basic q frame store) × KeptBy q store (pushed_full q frame store))
    × (read_number (read_next q store).answer ≢ 0 → (read_next q store).queue ≡ q)

-- what a packet transmission consists of: packets' LSFs and frames, and its end
abbrev pub of_packets : ModulatorFrame → Bool
of_packets (Preamble delay) = false
of_packets (Lsf lsf) = true
of_packets (Stream frame) = false
of_packets (PacketPiece frame) = true
of_packets EndOfTransmission = true

-- a read gives no other frame
abbrev pub GivesPackets : Type 0
GivesPackets = (q : PacketQueue) (store : List ℕ) (frame : ModulatorFrame) → (read_next q store).answer ≡ Ok (Some frame) → of_packets frame ≡ true

-- a new queue is within its bounds
abbrev pub NewIsSound : Type 0
NewIsSound = sound_queue new_queue ≡ true

-- a queue within its bounds, with a store of its length
pub record Sound (q : PacketQueue) (store : List ℕ) : Type 0 where
  pub its_store : length store ≡ STORE
  pub its_state : sound_queue q ≡ true

-- each call leaves such a queue as such a queue
abbrev pub SoundStaysSound : Type 0
SoundStaysSound =
    (q : PacketQueue) (store : List ℕ) → Sound q store
    → ((frame : List ℕ) → Sound (pushed_basic q frame store).0.queue (pushed_basic q frame store).1 × Sound (pushed_full q frame store).0.queue (pushed_full q frame store).1)
    × Sound (read_next q store).queue store

-- the packet of a port 0 frame has the fixed LSF and, as its data, the type byte 00 and the payload, followed by their CRC
abbrev pub BasicIsSealed : Type 0
BasicIsSealed =
    (n : ℕ) (decoded_room : List ℕ) → n + 2 ≤ length decoded_room
    → packet_in (basic_room n decoded_room) (n + 3) ≡ record { lsf = basic_lsf; body = sealed (RAW ∷ take n decoded_room) }

-- the frames of a packet, joined again, are the packet
abbrev pub Rejoined : Type 0
Rejoined = (p : Packet) → rejoin (frames_of p) ≡ p
