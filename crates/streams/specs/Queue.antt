-- The stream queue: eight frames in a ring and an LSF that waits, in a record and a store of 230 bytes, and what each call makes of them, from document 01 under
-- "The TNC", "Answer numbers" and "Bounds for 8". Assumes nothing.
use Rattle.std.specs.Prelude.{ℕ, ◌+◌, ◌*◌, ◌%◌, Bool, true, false, List, ltb, leb, eqb, length, replicate, Result, Ok, Err, Option, Some, None}
use Rattle.choice.specs.Pick.{pick, and}
use Rattle.room.specs.declared.LentError.{LentError}
use Rattle.room.specs.declared.LentError.TheVariants.{WrongStore as NoStore, OutOfBounds as NoState}
use Rattle.room.specs.Room.{placed, lent_number}
use Rattle.crc.specs.Crc.{crc_of}
use Rattle.protocol.specs.declared.ModulatorFrame.{ModulatorFrame}
use Rattle.protocol.specs.declared.ModulatorFrame.TheVariants.{Lsf, Stream}
use Rattle.protocol.specs.declared.StreamFrame.{StreamFrame}
use Rattle.protocol.specs.Lsf.{part}
use Rattle.streams.specs.declared.StreamPush.{StreamPush}
use Rattle.kiss_layout.specs.declared.PushError.{PushError}
use Rattle.streams.specs.declared.StreamPush.TheVariants.{Ignored, Queued, LsfPending}
use Rattle.kiss_layout.specs.declared.KissError.{KissError}
use Rattle.kiss_layout.specs.declared.PushError.TheVariants.{MalformedKissFrame, OutOfBounds, WrongStore}
use Rattle.kiss_layout.specs.Read.{decoded}
use Rattle.kiss_layout.specs.Stream.{stream_of}
use Rattle.streams.specs.declared.StreamQueue.{StreamQueue}
use Rattle.streams.specs.declared.StreamPushed.{StreamPushed}
use Rattle.streams.specs.declared.StreamRead.{StreamRead}
use Rattle.streams.specs.Layout.{FRAME, bytes_of, frame_of}

-- how many frames fit, where the LSF that waits stands, and how many bytes the store has
abbrev pub PLACES : ℕ
PLACES = 8

abbrev pub LSF : ℕ
LSF = 200

abbrev pub STORE : ℕ
STORE = 230

abbrev pub new_queue : StreamQueue
new_queue = record { next = 0; curr = 0; full = false; pending = false }

-- queue places below 8, a full flag only with equal places
unfoldable pub sound_queue : StreamQueue → Bool
sound_queue q = and (ltb q.next PLACES) (and (ltb q.curr PLACES) (pick q.full (eqb q.next q.curr) true))

-- no frame waits
unfoldable pub empty_queue : StreamQueue → Bool
empty_queue q = pick q.full false (eqb q.next q.curr)

-- the frame at a place
abbrev pub frame_at : ℕ → List ℕ → StreamFrame
frame_at place store = frame_of (part (FRAME * place) FRAME store)

-- the place after a place: after the last comes the first
abbrev pub after : ℕ → ℕ
after place = (place + 1) % PLACES

-- the queue with one frame more, with one less, with an LSF that waits, and without
unfoldable pub queued : StreamQueue → StreamQueue
queued q = record { next = after q.next; curr = q.curr; full = eqb (after q.next) q.curr; pending = q.pending }

unfoldable pub unqueued : StreamQueue → StreamQueue
unqueued q = record { next = q.next; curr = after q.curr; full = false; pending = q.pending }

abbrev pub with_pending : Bool → StreamQueue → StreamQueue
with_pending p q = record { next = q.next; curr = q.curr; full = q.full; pending = p }

-- ---- push

-- the frame leaves no trace
abbrev pub not_pushed : Result StreamPush PushError → StreamQueue → List ℕ → StreamPushed × List ℕ
not_pushed answer q store = (record { answer = answer; queue = q }, store)

-- data is queued, and ignored where the queue is full; neither its CRC nor its LICH index is checked
unfoldable pub data_pushed : StreamQueue → List ℕ → List ℕ → StreamPushed × List ℕ
data_pushed q payload store =
    pick q.full (not_pushed (Ok Ignored) q store)
    (record { answer = Ok Queued; queue = queued q }, placed (bytes_of (stream_of payload)) store (FRAME * q.next))

-- an LSF whose CRC is not 0 is ignored; else it waits, in place of one that waited before, also where the queue is full
unfoldable pub lsf_pushed : StreamQueue → List ℕ → List ℕ → StreamPushed × List ℕ
lsf_pushed q payload store =
    pick (eqb (crc_of payload) 0) (record { answer = Ok LsfPending; queue = with_pending true q }, placed payload store LSF) (not_pushed (Ok Ignored) q store)

-- a payload of 0 to 25 bytes is ignored, 26 to 29 is data, 30 is an LSF
abbrev pub IGNORED : ℕ
IGNORED = 25

abbrev pub DATA : ℕ
DATA = 29

unfoldable pub payload_pushed : ℕ → StreamQueue → List ℕ → List ℕ → StreamPushed × List ℕ
payload_pushed n q payload store = pick (leb n IGNORED) (not_pushed (Ok Ignored) q store) (pick (leb n DATA) (data_pushed q payload store) (lsf_pushed q payload store))

abbrev pub decoded_pushed : Result ℕ KissError → StreamQueue → List ℕ → List ℕ → StreamPushed × List ℕ
decoded_pushed (Err e) q payload store = not_pushed (Err MalformedKissFrame) q store
decoded_pushed (Ok n) q payload store = payload_pushed n q payload store

-- a frame decoded into a room of 30 bytes that is first all zero: longer payloads are cut to 30
abbrev pub decoded_of : List ℕ → Result ℕ KissError × List ℕ
decoded_of frame = decoded frame (replicate 30 0)

unfoldable pub pushed : StreamQueue → List ℕ → List ℕ → StreamPushed × List ℕ
pushed q frame store =
    pick (eqb (length store) STORE)
    (pick (sound_queue q) (decoded_pushed (decoded_of frame).0 q (decoded_of frame).1 store) (not_pushed (Err OutOfBounds) q store))
    (not_pushed (Err WrongStore) q store)

-- ---- read_next

abbrev pub not_read : Result (Option ModulatorFrame) LentError → StreamQueue → StreamRead
not_read answer q = record { answer = answer; queue = q }

unfoldable pub lsf_read : StreamQueue → List ℕ → StreamRead
lsf_read q store = record { answer = Ok (Some (Lsf (record { 0 = part LSF 30 store }))); queue = with_pending false q }

unfoldable pub frame_read : StreamQueue → List ℕ → StreamRead
frame_read q store = record { answer = Ok (Some (Stream (frame_at q.curr store))); queue = unqueued q }

-- nothing while the queue is empty; else an LSF that waits comes first, then the frames
unfoldable pub next_read : StreamQueue → List ℕ → StreamRead
next_read q store = pick (empty_queue q) (not_read (Ok None) q) (pick q.pending (lsf_read q store) (frame_read q store))

unfoldable pub read_next : StreamQueue → List ℕ → StreamRead
read_next q store = pick (eqb (length store) STORE) (pick (sound_queue q) (next_read q store) (not_read (Err NoState) q)) (not_read (Err NoStore) q)

-- ---- document 01's numbers for the answers

abbrev pub push_number : Result StreamPush PushError → ℕ
push_number (Ok Queued) = 0
push_number (Ok LsfPending) = 0
push_number (Ok Ignored) = 0
push_number (Err MalformedKissFrame) = 3
push_number (Err WrongStore) = 7
push_number (Err OutOfBounds) = 8

abbrev pub read_number : Result (Option ModulatorFrame) LentError → ℕ
read_number (Ok frame) = 0
read_number (Err e) = lent_number e
