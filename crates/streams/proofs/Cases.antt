-- What the definitions of the queue's calls come to, case by case, as the code meets the cases. Assumes nothing.
use mathlib.Core.Path.{◌≡◌, sym, ap, ◌∙◌}
use mathlib.Core.Bool.{true, false}
use mathlib.Core.List.{List}
use Prim.Native.Nat.{ℕ, ◌*◌, ◌≤◌, ◌<◌}
use native.Mathlib.Omega.{arith}
use lib.ListN.{length}
use borrow.Author.Tests.{eq-eqb, ne_eqb, le-leb, lt-leb, ltb-true}
use Rattle.choice.specs.Pick.{pick, and_fst, and_snd}
use Rattle.room.specs.Room.{placed}
use Rattle.crc.specs.Crc.{crc_of}
use Rattle.std.specs.Prelude.{Result, ℕ, Ok, Err, None}
use Rattle.kiss_layout.specs.declared.KissError.{KissError}
use Rattle.streams.specs.declared.StreamPush.TheVariants.{Ignored, Queued, LsfPending}
use Rattle.kiss_layout.specs.Stream.{stream_of}
use Rattle.streams.specs.declared.StreamQueue.{StreamQueue}
use Rattle.room.specs.declared.LentError.TheVariants.{WrongStore as NoStore, OutOfBounds as NoState}
use Rattle.streams.specs.Layout.{FRAME, bytes_of}
use Rattle.streams.specs.Queue.{PLACES, LSF, STORE, IGNORED, DATA, sound_queue, empty_queue, queued, with_pending, not_pushed, data_pushed, lsf_pushed, payload_pushed, decoded_pushed, decoded_of, pushed, not_read, lsf_read, frame_read, next_read, read_next}

-- ---- what a sound queue says

pub next_below : (q : StreamQueue) → sound_queue q ≡ true → q.next < PLACES
unfolding sound_queue
next_below q e = ltb-true q.next PLACES (and_fst _ _ e)

pub curr_below : (q : StreamQueue) → sound_queue q ≡ true → q.curr < PLACES
unfolding sound_queue
curr_below q e = ltb-true q.curr PLACES (and_fst _ _ (and_snd _ _ e))

-- ---- push

module _ (q : StreamQueue) (frame store : List ℕ) where
  -- past the tests, once the frame is decoded
  pub pushed-decoded : length store ≡ STORE → sound_queue q ≡ true → {r : Result ℕ KissError} (payload : List ℕ) → (r, payload) ≡ decoded_of frame → (d : Result ℕ KissError) → r ≡ d
      → decoded_pushed d q payload store ≡ pushed q frame store
  unfolding pushed pick
  pushed-decoded l e payload p d g =
      ap (λ (x : Result ℕ KissError). decoded_pushed x q payload store) (sym g)
      ∙ ap (λ (x : Result ℕ KissError × List ℕ). decoded_pushed x.0 q x.1 store) p
      ∙ rw (eq-eqb (length store) STORE l, e)

module _ (q : StreamQueue) (payload store : List ℕ) where
  pub data_full : q.full ≡ true → not_pushed (Ok Ignored) q store ≡ data_pushed q payload store
  unfolding data_pushed pick
  data_full t = rw t

  pub data_roomy : q.full ≡ false → (record { answer = Ok Queued; queue = queued q }, placed (bytes_of (stream_of payload)) store (FRAME * q.next)) ≡ data_pushed q payload store
  unfolding data_pushed pick
  data_roomy t = rw t

  pub lsf_right : {n : ℕ} → n ≡ crc_of payload → n ≡ 0 → (record { answer = Ok LsfPending; queue = with_pending true q }, placed payload store LSF) ≡ lsf_pushed q payload store
  unfolding lsf_pushed pick
  lsf_right e z = rw (eq-eqb (crc_of payload) 0 (sym e ∙ z))

module _ (n : ℕ) (q : StreamQueue) (payload store : List ℕ) where
  pub payload_short : n ≤ IGNORED → not_pushed (Ok Ignored) q store ≡ payload_pushed n q payload store
  unfolding payload_pushed pick
  payload_short h = rw (le-leb n IGNORED h)

  pub payload_data : IGNORED < n → n ≤ DATA → data_pushed q payload store ≡ payload_pushed n q payload store
  unfolding payload_pushed pick
  payload_data h k = rw (lt-leb n IGNORED h, le-leb n DATA k)

  pub payload_lsf : DATA < n → lsf_pushed q payload store ≡ payload_pushed n q payload store
  unfolding payload_pushed pick
  payload_lsf h = rw (lt-leb n IGNORED (omega arith), lt-leb n DATA h)

-- ---- read_next

module _ (q : StreamQueue) (store : List ℕ) where
  pub read_wrong : (length store ≡ STORE → ⊥) → not_read (Err NoStore) q ≡ read_next q store
  unfolding read_next pick
  read_wrong f = rw (ne_eqb (length store) STORE f)

  pub read_unsound : length store ≡ STORE → sound_queue q ≡ false → not_read (Err NoState) q ≡ read_next q store
  unfolding read_next pick
  read_unsound l e = rw (eq-eqb (length store) STORE l, e)

  pub read_empty : length store ≡ STORE → sound_queue q ≡ true → empty_queue q ≡ true → not_read (Ok None) q ≡ read_next q store
  unfolding read_next next_read pick
  read_empty l e m = rw (eq-eqb (length store) STORE l, e, m)

  pub read_lsf : length store ≡ STORE → sound_queue q ≡ true → empty_queue q ≡ false → q.pending ≡ true → lsf_read q store ≡ read_next q store
  unfolding read_next next_read pick
  read_lsf l e m p = rw (eq-eqb (length store) STORE l, e, m, p)

  pub read_frame : length store ≡ STORE → sound_queue q ≡ true → empty_queue q ≡ false → q.pending ≡ false → frame_read q store ≡ read_next q store
  unfolding read_next next_read pick
  read_frame l e m p = rw (eq-eqb (length store) STORE l, e, m, p)
