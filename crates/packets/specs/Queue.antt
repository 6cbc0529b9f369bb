-- The packet queue: a record of four places, and a store of four rooms of 855 bytes beside it (LSF 30, data 825). What each call answers, and the record and every byte of
-- the store after it, from document 01 under "The TNC", "Answer numbers" and "Bounds for 8". Assumes nothing.
use Rattle.std.specs.Prelude.{ℕ, zero, suc, ◌+◌, ◌-◌, ◌*◌, ◌/◌, ◌%◌, min, Bool, true, false, List, [], ◌∷◌, ◌++◌, ltb, leb, eqb, length, get_or, set, take, replicate, Result, Err, Ok, Option, Some, None}
use Rattle.choice.specs.Pick.{pick, and}
use Rattle.choice.specs.Cases.{all_pass}
use Rattle.room.specs.declared.LentError.{LentError}
use Rattle.room.specs.declared.LentError.TheVariants.{WrongStore as NoStore, OutOfBounds as NoState}
use Rattle.room.specs.Room.{placed, lent_number}
use Rattle.crc.specs.Crc.{crc_of, two_bytes}
use Rattle.protocol.specs.Lsf.{part}
use Rattle.protocol.specs.Basic.{basic_lsf}
use Rattle.protocol.specs.declared.ModulatorFrame.{ModulatorFrame}
use Rattle.protocol.specs.declared.ModulatorFrame.TheVariants.{Preamble, Lsf, Stream, Packet as PacketPiece, EndOfTransmission}
use Rattle.kiss_layout.specs.declared.KissError.{KissError}
use Rattle.packets.specs.declared.Push.{Push}
use Rattle.kiss_layout.specs.declared.PushError.{PushError}
use Rattle.kiss_layout.specs.declared.PushError.TheVariants.{MalformedKissFrame, OutOfBounds, WrongStore}
use Rattle.packets.specs.declared.Push.TheVariants.{Ignored, Queued}
use Rattle.kiss_layout.specs.Read.{decoded}
use Rattle.packets.specs.declared.Place.{Place}
use Rattle.packets.specs.declared.PacketQueue.{PacketQueue}
use Rattle.packets.specs.declared.Pushed.{Pushed}
use Rattle.packets.specs.declared.PacketRead.{PacketRead}
use Rattle.packets.specs.Frames.{Packet, AirFrame, setup, piece, zeros, chunk}

-- the bytes of a place's room, of its data, and of the store
abbrev pub ROOM : ℕ
ROOM = 855

abbrev pub DATA : ℕ
DATA = 825

abbrev pub STORE : ℕ
STORE = 3420

abbrev pub no_packet : Place
no_packet = record { due = false; len = 0; sent = 0 }

abbrev pub new_queue : PacketQueue
new_queue = record { places = replicate 4 no_packet; next = 0; curr = 0; full = false }

-- ---- bounds: sent ≤ length ≤ 825, queue places below 4, a full flag only with equal places

unfoldable pub sound_place : Place → Bool
sound_place p = and (leb p.sent p.len) (leb p.len DATA)

unfoldable pub sound_queue : PacketQueue → Bool
sound_queue q =
    and (all_pass sound_place q.places) (and (ltb q.next 4) (and (ltb q.curr 4) (pick q.full (eqb q.next q.curr) true)))

-- no packet waits
unfoldable pub is_empty : PacketQueue → Bool
is_empty q = pick q.full false (eqb q.next q.curr)

-- ---- what a data frame comes to, before the queue is looked at

pub data Made : Type 0 where
  -- no header, or no FEND after it
  malformed : Made
  -- ignored
  unfit : Made
  -- ignored for its length
  overlong : Made
  -- a packet of that many bytes of data, as the room of its place
  fills : (room : List ℕ) (len : ℕ) → Made

-- the type of a packet of port 0
abbrev pub RAW : ℕ
RAW = 0x00

-- the room of a port 0 packet: the LSF, the type byte, and the room that the content was decoded into with the CRC behind its n bytes
unfoldable pub basic_room : ℕ → List ℕ → List ℕ
basic_room n decoded_room = basic_lsf ++ (RAW ∷ placed (two_bytes (crc_of (RAW ∷ take n decoded_room))) decoded_room n)

-- up to 822 bytes are queued, more are ignored
unfoldable pub basic : Result ℕ KissError → List ℕ → Made
basic (Err e) decoded_room = malformed
basic (Ok n) decoded_room = pick (leb n 822) (fills (basic_room n decoded_room) (n + 3)) overlong

-- under 33, or an LSF whose CRC is not 0, is ignored
unfoldable pub full : Result ℕ KissError → List ℕ → Made
full (Err e) decoded_room = malformed
full (Ok n) decoded_room = pick (and (leb 33 n) (eqb (crc_of (take 30 decoded_room)) 0)) (fills decoded_room (n - 30)) unfit

-- every room decoded into is first all zero; behind the type byte there are 824 bytes
unfoldable pub made_basic : List ℕ → Made
made_basic frame = basic (decoded frame (zeros 824)).0 (decoded frame (zeros 824)).1

-- over 855 decoded bytes are cut to 855
unfoldable pub made_full : List ℕ → Made
made_full frame = full (decoded frame (zeros ROOM)).0 (decoded frame (zeros ROOM)).1

-- the packet that a room and a length stand for
abbrev pub packet_in : List ℕ → ℕ → Packet
packet_in room len = record { lsf = take 30 room; body = part 30 len room }

-- ---- a packet is queued

unfoldable pub with_packet : PacketQueue → ℕ → PacketQueue
with_packet q len =
    record { places = set q.places q.next (record { due = true; len = len; sent = 0 }); next = (q.next + 1) % 4; curr = q.curr; full = eqb ((q.next + 1) % 4) q.curr }

-- the store with another room at place k
abbrev pub stored : List ℕ → ℕ → List ℕ → List ℕ
stored store k room = placed room store (ROOM * k)

abbrev pub not_pushed : Result Push PushError → PacketQueue → List ℕ → Pushed × List ℕ
not_pushed answer q store = (record { answer = answer; queue = q }, store)

-- where there is a free place
unfoldable pub obeyed : PacketQueue → List ℕ → Made → Pushed × List ℕ
obeyed q store malformed = not_pushed (Err MalformedKissFrame) q store
obeyed q store unfit = not_pushed (Ok Ignored) q store
obeyed q store overlong = not_pushed (Ok Ignored) q (stored store q.next (zeros ROOM))
obeyed q store (fills room len) = (record { answer = Ok Queued; queue = with_packet q len }, stored store q.next room)

-- a full queue is looked at before decoding
unfoldable pub pushing : PacketQueue → List ℕ → Made → Pushed × List ℕ
pushing q store made =
    pick (eqb (length store) STORE)
    (pick (sound_queue q) (pick q.full (not_pushed (Ok Ignored) q store) (obeyed q store made)) (not_pushed (Err OutOfBounds) q store))
    (not_pushed (Err WrongStore) q store)

unfoldable pub pushed_basic : PacketQueue → List ℕ → List ℕ → Pushed × List ℕ
pushed_basic q frame store = pushing q store (made_basic frame)

unfoldable pub pushed_full : PacketQueue → List ℕ → List ℕ → Pushed × List ℕ
pushed_full q frame store = pushing q store (made_full frame)

-- ---- a read in a packet transmission

abbrev pub not_read : Result (Option ModulatorFrame) LentError → PacketQueue → PacketRead
not_read answer q = record { answer = answer; queue = q }

abbrev pub here : PacketQueue → Place
here q = get_or q.places q.curr no_packet

-- the queue with another record at the current place
unfoldable pub with_place : PacketQueue → Place → PacketQueue
with_place q p = record { places = set q.places q.curr p; next = q.next; curr = q.curr; full = q.full }

-- the current place is passed over: it is free again, so the queue is not full
unfoldable pub advanced : PacketQueue → PacketQueue
advanced q = record { places = q.places; next = q.next; curr = (q.curr + 1) % 4; full = false }

-- the current place's LSF is given
unfoldable pub lsf_read : PacketQueue → List ℕ → PacketRead
lsf_read q store =
    record { answer = Ok (Some (Lsf (record { 0 = part (ROOM * q.curr) 30 store }))); queue = with_place q (record { due = false; len = (here q).len; sent = (here q).sent }) }

-- the first frame of the data that it has not sent
unfoldable pub data_read : PacketQueue → List ℕ → PacketRead
data_read q store =
    record {
      answer = Ok (Some (PacketPiece (chunk ((here q).sent / 25) (part (ROOM * q.curr + 30 + (here q).sent) ((here q).len - (here q).sent) store))));
      queue = with_place q (record { due = (here q).due; len = (here q).len; sent = (here q).sent + min 25 ((here q).len - (here q).sent) });
    }

-- one place: `on` is what the rest of the queue gives where it is spent
unfoldable pub turn : PacketQueue → List ℕ → PacketRead → PacketRead
turn q store on =
    pick (is_empty q) (not_read (Ok (Some EndOfTransmission)) q) (pick (here q).due (lsf_read q store) (pick (eqb (here q).sent (here q).len) on (data_read q store)))

-- passes over packets that are spent, at most n of them, until one yields a frame, or answers end of transmission
unfoldable pub walk : ℕ → PacketQueue → List ℕ → PacketRead
walk zero q store = not_read (Ok (Some EndOfTransmission)) q
walk (suc n) q store = turn q store (walk n (advanced q) store)

-- where the queue is empty at the call, nothing
unfoldable pub read_next : PacketQueue → List ℕ → PacketRead
read_next q store =
    pick (eqb (length store) STORE)
    (pick (sound_queue q) (pick (is_empty q) (not_read (Ok None) q) (walk 4 q store)) (not_read (Err NoState) q))
    (not_read (Err NoStore) q)

-- the frames of packets in an answer: one or none
abbrev pub frames_in : Result (Option ModulatorFrame) LentError → List AirFrame
frames_in (Ok None) = []
frames_in (Ok (Some (Preamble delay))) = []
frames_in (Ok (Some (Lsf lsf))) = setup lsf.0 ∷ []
frames_in (Ok (Some (Stream frame))) = []
frames_in (Ok (Some (PacketPiece frame))) = piece frame ∷ []
frames_in (Ok (Some EndOfTransmission)) = []
frames_in (Err e) = []

-- ---- document 01's numbers for the answers

abbrev pub push_number : Result Push PushError → ℕ
push_number (Ok Queued) = 0
push_number (Ok Ignored) = 0
push_number (Err MalformedKissFrame) = 3
push_number (Err WrongStore) = 7
push_number (Err OutOfBounds) = 8

abbrev pub read_number : Result (Option ModulatorFrame) LentError → ℕ
read_number (Ok frame) = 0
read_number (Err e) = lent_number e
