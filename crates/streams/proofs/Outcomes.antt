-- The outcomes of a push and of a read, one constructor each. Assumes nothing.
use mathlib.Core.Path.{◌≡◌, refl}
use mathlib.Core.Bool.{Bool, true, false}
use mathlib.Core.List.{List, [], ◌∷◌}
use mathlib.Core.Option.{Option as Maybe, none, some}
use Prim.Native.Nat.{ℕ, ◌*◌}
use lib.Dec.{leb, eqb}
use lib.ListN.{length, replicate}
use borrow.Author.Tests.{eqb-true}
use Rattle.choice.specs.Pick.{pick}
use Rattle.room.specs.Room.{placed}
use Rattle.crc.specs.Crc.{crc_of}
use Rattle.kiss_layout.proofs.Unescaped.{room_length}
use Rattle.std.specs.Prelude.{Result, Ok, Err, Option, Some, None, ℕ}
use Rattle.streams.specs.declared.StreamPush.{StreamPush}
use Rattle.kiss_layout.specs.declared.PushError.{PushError}
use Rattle.streams.specs.declared.StreamPush.TheVariants.{Ignored, Queued, LsfPending}
use Rattle.kiss_layout.specs.declared.PushError.TheVariants.{MalformedKissFrame, WrongStore, OutOfBounds}
use Rattle.kiss_layout.specs.declared.KissError.{KissError}
use Rattle.kiss_layout.specs.Scan.{stretch, after_fends}
use Rattle.kiss_layout.specs.Read.{content_in, payload_at, decoded}
use Rattle.kiss_layout.specs.Stream.{stream_of}
use Rattle.streams.specs.declared.StreamQueue.{StreamQueue}
use Rattle.streams.specs.declared.StreamPushed.{StreamPushed}
use Rattle.room.specs.declared.LentError.{LentError}
use Rattle.room.specs.declared.LentError.TheVariants.{WrongStore as NoStore, OutOfBounds as NoState}
use Rattle.protocol.specs.declared.ModulatorFrame.{ModulatorFrame}
use Rattle.protocol.specs.declared.ModulatorFrame.TheVariants.{Preamble, Lsf, Stream, Packet, EndOfTransmission}
use Rattle.streams.specs.declared.StreamRead.{StreamRead}
use Rattle.streams.specs.Layout.{FRAME, bytes_of}
use Rattle.streams.specs.Queue.{LSF, STORE, IGNORED, DATA, sound_queue, empty_queue, queued, with_pending, not_pushed, data_pushed, lsf_pushed, payload_pushed, decoded_pushed, decoded_of, pushed, not_read, lsf_read, frame_read, next_read, read_next}

-- ---- the room that a frame is decoded into keeps its length

decoded-length : (f d : List ℕ) → length (decoded f d).1 ≡ length d
unfolding decoded
decoded-length f d = by (after_fends f)
  where
    content : (o : Maybe (List ℕ)) → length (content_in o d).1 ≡ length d
    content none = refl
    content (some c) = room_length c d

    by : (s : List ℕ) → length (payload_at s d).1 ≡ length d
    by [] = refl
    by (h ∷ s) = content (stretch s)

pub payload_thirty : (frame : List ℕ) → length (decoded_of frame).1 ≡ 30
payload_thirty frame = decoded-length frame (replicate 30 0)

-- ---- a push

-- answers that leave all as it was
pub data Quiet : Result StreamPush PushError → Type 0 where
  ignored : Quiet (Ok Ignored)
  malformed : Quiet (Err MalformedKissFrame)
  wrong_store : Quiet (Err WrongStore)
  out_of_bounds : Quiet (Err OutOfBounds)

-- answers told apart
abbrev pub tag : Result StreamPush PushError → ℕ
tag (Ok Queued) = 0
tag (Ok LsfPending) = 1
tag (Ok Ignored) = 2
tag (Err MalformedKissFrame) = 2
tag (Err WrongStore) = 2
tag (Err OutOfBounds) = 2

pub quiet_tag : {a : Result StreamPush PushError} → Quiet a → tag a ≡ 2
quiet_tag ignored = refl
quiet_tag malformed = refl
quiet_tag wrong_store = refl
quiet_tag out_of_bounds = refl

pub data Push (q : StreamQueue) (payload store : List ℕ) : StreamPushed × List ℕ → Type 0 where
  kept : {a : Result StreamPush PushError} → Quiet a → Push q payload store (not_pushed a q store)
  data_queued : length store ≡ STORE → sound_queue q ≡ true → q.full ≡ false
      → Push q payload store (record { answer = Ok Queued; queue = queued q }, placed (bytes_of (stream_of payload)) store (FRAME * q.next))
  lsf_taken : length store ≡ STORE → sound_queue q ≡ true
      → Push q payload store (record { answer = Ok LsfPending; queue = with_pending true q }, placed payload store LSF)

pub push_outcome : (q : StreamQueue) (frame store : List ℕ) → Push q (decoded_of frame).1 store (pushed q frame store)
unfolding pushed payload_pushed data_pushed lsf_pushed pick
push_outcome q frame store = tested (eqb (length store) STORE) refl
  where
    p : List ℕ
    p = (decoded_of frame).1

    data-pushed : length store ≡ STORE → sound_queue q ≡ true → Push q p store (data_pushed q p store)
    data-pushed l s = by q.full refl
      where
        by : (t : Bool) → q.full ≡ t → Push q p store (pick t (not_pushed (Ok Ignored) q store) (record { answer = Ok Queued; queue = queued q }, placed (bytes_of (stream_of p)) store (FRAME * q.next)))
        by true e = kept ignored
        by false e = data_queued l s e

    lsf-pushed : length store ≡ STORE → sound_queue q ≡ true → Push q p store (lsf_pushed q p store)
    lsf-pushed l s = by (eqb (crc_of p) 0)
      where
        by : (t : Bool) → Push q p store (pick t (record { answer = Ok LsfPending; queue = with_pending true q }, placed p store LSF) (not_pushed (Ok Ignored) q store))
        by true = lsf_taken l s
        by false = kept ignored

    counted : length store ≡ STORE → sound_queue q ≡ true → (a b : Bool)
        → Push q p store (pick a (not_pushed (Ok Ignored) q store) (pick b (data_pushed q p store) (lsf_pushed q p store)))
    counted l s true b = kept ignored
    counted l s false true = data-pushed l s
    counted l s false false = lsf-pushed l s

    answered : length store ≡ STORE → sound_queue q ≡ true → (d : Result ℕ KissError) → Push q p store (decoded_pushed d q p store)
    answered l s (Err e) = kept malformed
    answered l s (Ok n) = counted l s (leb n IGNORED) (leb n DATA)

    bounded : length store ≡ STORE → (t : Bool) → sound_queue q ≡ t → Push q p store (pick t (decoded_pushed (decoded_of frame).0 q p store) (not_pushed (Err OutOfBounds) q store))
    bounded l true s = answered l s (decoded_of frame).0
    bounded l false s = kept out_of_bounds

    tested : (t : Bool) → eqb (length store) STORE ≡ t
        → Push q p store (pick t (pick (sound_queue q) (decoded_pushed (decoded_of frame).0 q p store) (not_pushed (Err OutOfBounds) q store)) (not_pushed (Err WrongStore) q store))
    tested true e = bounded (eqb-true (length store) STORE e) (sound_queue q) refl
    tested false e = kept wrong_store

-- ---- a read

pub data Silent : Result (Option ModulatorFrame) LentError → Type 0 where
  nothing : Silent (Ok None)
  no_store : Silent (Err NoStore)
  no_state : Silent (Err NoState)

abbrev pub read_tag : Result (Option ModulatorFrame) LentError → ℕ
read_tag (Ok (Some (Lsf lsf))) = 0
read_tag (Ok (Some (Stream f))) = 1
read_tag (Ok (Some (Preamble delay))) = 2
read_tag (Ok (Some (Packet f))) = 2
read_tag (Ok (Some EndOfTransmission)) = 2
read_tag (Ok None) = 2
read_tag (Err e) = 2

pub silent_tag : {a : Result (Option ModulatorFrame) LentError} → Silent a → read_tag a ≡ 2
silent_tag nothing = refl
silent_tag no_store = refl
silent_tag no_state = refl

pub data Read (q : StreamQueue) (store : List ℕ) : StreamRead → Type 0 where
  silent : {a : Result (Option ModulatorFrame) LentError} → Silent a → Read q store (not_read a q)
  lsf_given : sound_queue q ≡ true → empty_queue q ≡ false → q.pending ≡ true → Read q store (lsf_read q store)
  frame_given : sound_queue q ≡ true → empty_queue q ≡ false → q.pending ≡ false → Read q store (frame_read q store)

pub read_outcome : (q : StreamQueue) (store : List ℕ) → Read q store (read_next q store)
unfolding read_next next_read pick
read_outcome q store = by (eqb (length store) STORE) (sound_queue q) (empty_queue q) q.pending refl refl refl
  where
    by : (l s m p : Bool) → sound_queue q ≡ s → empty_queue q ≡ m → q.pending ≡ p
        → Read q store (pick l (pick s (pick m (not_read (Ok None) q) (pick p (lsf_read q store) (frame_read q store))) (not_read (Err NoState) q)) (not_read (Err NoStore) q))
    by false s m p e f g = silent no_store
    by true false m p e f g = silent no_state
    by true true true p e f g = silent nothing
    by true true false true e f g = lsf_given e f g
    by true true false false e f g = frame_given e f g
