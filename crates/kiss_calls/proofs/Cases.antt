-- What the definitions of the reader's calls come to, case by case, as the code meets the cases. Assumes nothing.
use mathlib.Core.Path.{◌≡◌, refl, sym, ap, ap₂, ◌∙◌}
use mathlib.Core.Bool.{Bool, true, false}
use mathlib.Core.List.{List, [], ◌∷◌, ◌++◌}
use Prim.Native.Nat.{ℕ, ◌+◌, ◌-◌, ◌≤◌, ◌<◌, min}
use native.Mathlib.Omega.{arith}
use mir.Val.{bool_byte}
use lib.Dec.{eqb}
use lib.ListN.{length, take, drop, get_or, length-append, length-drop, length-take, take-append-drop}
use lib.Seq.{take_at, take-take, take_all, drop-append-add, drop-drop}
use borrow.Author.Tests.{eq-eqb, ne_eqb, le-leb, lt-leb, leb-true, eqb-true}
use Rattle.choice.specs.Pick.{pick, and, and_fst, and_snd}
use Rattle.room.specs.Room.{over}
use Rattle.kiss_layout.specs.Escape.{FEND}
use Rattle.kiss_calls.specs.declared.KissBuffer.{KissBuffer}
use Rattle.kiss_calls.specs.declared.WriteError.TheVariants.{Full, WrongStore, OutOfBounds}
use Rattle.std.specs.Prelude.{Err, Ok}
use Rattle.room.specs.declared.LentError.TheVariants.{WrongStore as NoStore, OutOfBounds as NoState}
use Rattle.kiss_reader.specs.Reader.{Reader, STORE, settle, flush, front, is_some, next, after_next, is_full, refused, kept_back, takes, after_write}
use Rattle.kiss_calls.specs.Calls.{reader_of, sound_buffer, not_written, writes, written, not_sought, found, next_frame, frame_in}
use Rattle.kiss_reader.specs.Front.{stands_first, or_empty, length_of}
use Rattle.kiss_calls.specs.Inside.{compacted, accepted}
use Rattle.kiss_reader.specs.Inside.{settle_at}
use Rattle.kiss_reader.proofs.Indices.{settle-at, settle-settle}
use Rattle.kiss_calls.proofs.Inner.{front-part, front_within, settled_within}

-- ---- what a sound state says

pub sound_filled : (b : KissBuffer) (store : List ℕ) → sound_buffer b store ≡ true → b.filled ≤ STORE
unfolding sound_buffer
sound_filled b store e = leb-true b.filled STORE (and_fst _ _ e)

sound_stands : (b : KissBuffer) (store : List ℕ) → sound_buffer b store ≡ true → b.taken ≡ true → stands_first (take b.filled store) ≡ true
unfolding sound_buffer pick
sound_stands b store e t = ap (λ (x : Bool). pick x (stands_first (take b.filled store)) true) (sym t) ∙ and_snd _ _ e

stands_begins : (h : List ℕ) → stands_first h ≡ true → get_or h 0 0 ≡ FEND
unfolding stands_first
stands_begins h e = eqb-true (get_or h 0 0) FEND (and_fst _ _ e)

pub sound_begins : (b : KissBuffer) (store : List ℕ) → sound_buffer b store ≡ true → b.taken ≡ true → get_or (take b.filled store) 0 0 ≡ FEND
sound_begins b store e t = stands_begins (take b.filled store) (sound_stands b store e t)

begins-some : (h : List ℕ) → get_or h 0 0 ≡ FEND → 1 ≤ length h
begins-some [] e = absurd (omega arith)
begins-some (x ∷ h) e = omega arith

-- a taken frame leaves a byte to drop
pub sound_taken : (b : KissBuffer) (store : List ℕ) → sound_buffer b store ≡ true → b.taken ≡ true → 1 ≤ b.filled
sound_taken b store e t = omega (arith, begins-some (take b.filled store) (sound_begins b store e t), length-take b.filled store)

pub sound_some : (b : KissBuffer) (store : List ℕ) → sound_buffer b store ≡ true → bool_byte b.taken ≤ b.filled
sound_some b store e = by b.taken refl
  where
    by : (t : Bool) → b.taken ≡ t → bool_byte t ≤ b.filled
    by true q = sound_taken b store e q
    by false q = omega arith

-- and what settles behind it stands within what is held
pub taken_settles : (b : KissBuffer) (store : List ℕ) → length store ≡ STORE → sound_buffer b store ≡ true → b.taken ≡ true → (n : ℕ)
    → n ≡ settle_at (take (b.filled - 1) (drop 1 store)) → 1 + n ≤ b.filled
taken_settles b store l e t n p = settled_within 1 b.filled n store (sound_taken b store e t) (omega (arith, sound_filled b store e, l)) p

-- what `is_sound` says of a store that has its length
pub and_sound : {r : Bool} (b : KissBuffer) (store : List ℕ) → length store ≡ STORE → r ≡ and (eqb (length store) STORE) (sound_buffer b store) → sound_buffer b store ≡ r
unfolding and
and_sound b store l e = sym (e ∙ ap (λ (x : Bool). and x (sound_buffer b store)) (eq-eqb (length store) STORE l))

-- past that test: n bytes are passed over, which a taken frame leaves, and k more until they settle
module _ {r : Bool} (b : KissBuffer) (store : List ℕ) (full : length store ≡ STORE) (e : r ≡ and (eqb (length store) STORE) (sound_buffer b store)) (t : r ≡ true) where
  pub filled_within : b.filled ≤ length store
  filled_within = omega (arith, sound_filled b store (and_sound b store full e ∙ t), full)

  module _ (n : ℕ) (q : n ≡ bool_byte b.taken) where
    pub passed_within : n ≤ b.filled
    passed_within = omega (arith, q, sound_some b store (and_sound b store full e ∙ t))

    pub settles_within : (k : ℕ) → k ≡ settle_at (take (b.filled - n) (drop n store)) → n + k ≤ b.filled
    settles_within k p = settled_within n b.filled k store passed_within filled_within p

-- ---- the tests that every call makes first

module _ (b : KissBuffer) (offered store : List ℕ) where
  pub written_wrong : (length store ≡ STORE → ⊥) → not_written WrongStore b store ≡ written b offered store
  unfolding written pick
  written_wrong f = rw (ne_eqb (length store) STORE f)

  pub written_unsound : length store ≡ STORE → sound_buffer b store ≡ false → not_written OutOfBounds b store ≡ written b offered store
  unfolding written pick
  written_unsound l e = rw (eq-eqb (length store) STORE l, e)

  pub written_sound : length store ≡ STORE → sound_buffer b store ≡ true → writes (reader_of b store) b offered store ≡ written b offered store
  unfolding written pick
  written_sound l e = rw (eq-eqb (length store) STORE l, e)

module _ (b : KissBuffer) (store : List ℕ) where
  pub next_wrong : (length store ≡ STORE → ⊥) → not_sought (Err NoStore) b store ≡ next_frame b store
  unfolding next_frame pick
  next_wrong f = rw (ne_eqb (length store) STORE f)

  pub next_unsound : length store ≡ STORE → sound_buffer b store ≡ false → not_sought (Err NoState) b store ≡ next_frame b store
  unfolding next_frame pick
  next_unsound l e = rw (eq-eqb (length store) STORE l, e)

  pub next_sound : length store ≡ STORE → sound_buffer b store ≡ true → found (reader_of b store) store ≡ next_frame b store
  unfolding next_frame pick
  next_sound l e = rw (eq-eqb (length store) STORE l, e)

  pub frame_untaken : length store ≡ STORE → sound_buffer b store ≡ true → b.taken ≡ false → [] ≡ frame_in b store
  unfolding frame_in pick and
  frame_untaken l e t = rw (eq-eqb (length store) STORE l, e, t)

  -- the frame as the part of the store that it stands in
  pub frame-part : length store ≡ STORE → sound_buffer b store ≡ true → b.taken ≡ true → (n : ℕ) → n ≡ length (or_empty (front (take b.filled store)))
      → (n ≤ length store) × (take n store ≡ frame_in b store)
  unfolding frame_in pick and
  frame-part l e t n q =
      let h = take b.filled store in
      let w : n ≤ length h = omega (arith, front_within h) in
      let s : n ≤ b.filled = omega (arith, w, length-take b.filled store) in (
        omega (arith, w, length-take b.filled store),
        sym (take-take n b.filled store s) ∙ ap (λ (m : ℕ). take m h) q ∙ front-part h (sound_begins b store e t) ∙ rw (eq-eqb (length store) STORE l, e, t),
      )

-- ---- a compacted store

module _ (from filled : ℕ) (store : List ℕ) where
  abbrev pub held_from : List ℕ
  held_from = settle (drop from (take filled store))

  pub compacted-count : {n : ℕ} {d : List ℕ} → (n, d) ≡ compacted from filled store → n ≡ length held_from
  unfolding compacted
  compacted-count e = ap (λ (p : ℕ × List ℕ). p.0) e

  pub compacted-left : {n : ℕ} {d : List ℕ} → (n, d) ≡ compacted from filled store → d ≡ over held_from store
  unfolding compacted
  compacted-left e = ap (λ (p : ℕ × List ℕ). p.1) e

-- ---- next_frame

-- a taken frame is dropped and what is left is settled, in one
pub settle-flush : (b : KissBuffer) (store : List ℕ) → settle (flush (reader_of b store)) ≡ settle (drop (bool_byte b.taken) (take b.filled store))
unfolding flush pick
settle-flush b store = by b.taken
  where
    by : (t : Bool) → settle (pick t (settle (drop 1 (take b.filled store))) (take b.filled store)) ≡ settle (drop (bool_byte t) (take b.filled store))
    by true = settle-settle (drop 1 (take b.filled store))
    by false = refl

module _ (r : Reader) (store held : List ℕ) (e : settle (flush r) ≡ held) where
  pub as_found : (record { answer = Ok (length_of (front held)); buffer = record { filled = length held; taken = is_some (front held) } }, over held store) ≡ found r store
  unfolding found next after_next
  as_found = rw e

-- ---- write

-- the offered bytes that fit, behind the kept ones, which stand at the store's start
accepted-over : (kept offered store : List ℕ) → length kept ≤ length store
    → accepted (length kept) offered (over kept store)
    ≡ (
      record { answer = Ok (min (length offered) (STORE - length kept)); buffer = record { filled = length kept + min (length offered) (STORE - length kept); taken = false } },
      over (kept ++ take (min (length offered) (STORE - length kept)) offered) store,
    )
unfolding accepted
accepted-over kept offered store h =
    let n = min (length offered) (STORE - length kept) in
    let t : take (length kept) (over kept store) ≡ kept = take_at kept (drop (length kept) store) (length kept) refl in
    let all = kept ++ take n offered in
    let l : length all ≡ length kept + length (take n offered) = length-append kept (take n offered) in
    let d : drop (length all) (over kept store) ≡ drop (length all) store =
    ap (λ (m : ℕ). drop m (over kept store)) l ∙ drop-append-add kept (drop (length kept) store) (length (take n offered))
    ∙ drop-drop (length (take n offered)) (length kept) store ∙ ap (λ (m : ℕ). drop m store) (sym l) in
    rw (t, d)

module _ (r : Reader) (b : KissBuffer) (offered store : List ℕ) where
  pub writes-full : refused r ≡ true → not_written Full b store ≡ writes r b offered store
  unfolding writes pick
  writes-full e = rw e

  -- a write that keeps these bytes
  pub writes_kept : (kept : List ℕ) → refused r ≡ false → kept_back r ≡ kept → length kept ≤ STORE → length store ≡ STORE
      → accepted (length kept) offered (over kept store) ≡ writes r b offered store
  unfolding writes pick takes after_write
  writes_kept kept e q h l =
      let n = min (length offered) (STORE - length kept) in
      let f : length kept + n ≡ length (kept ++ take n offered) = omega (arith, length-append kept (take n offered), length-take n offered) in
      accepted-over kept offered store (omega arith)
      ∙ ap (λ (m : ℕ). (record { answer = Ok n; buffer = record { filled = m; taken = false } }, over (kept ++ take n offered) store)) f
      ∙ rw (e, q)

-- ---- what a write keeps

pub roomy : (r : Reader) → length (flush r) < STORE → (refused r ≡ false) × (kept_back r ≡ flush r)
unfolding refused kept_back is_full and pick
roomy r h = let e = lt-leb STORE (length (flush r)) h in (rw e, rw e)

pub full_quiet : (r : Reader) → STORE ≤ length (flush r) → is_some (next r) ≡ false → (refused r ≡ false) × (kept_back r ≡ [])
unfolding refused kept_back is_full and pick
full_quiet r h e = let f = le-leb STORE (length (flush r)) h in (rw (f, e), rw (f, e))

pub full-framed : (r : Reader) → STORE ≤ length (flush r) → is_some (next r) ≡ true → refused r ≡ true
unfolding refused is_full and
full-framed r h e = rw (le-leb STORE (length (flush r)) h, e)

pub flush_taken : (b : KissBuffer) (store : List ℕ) → b.taken ≡ true → flush (reader_of b store) ≡ settle (drop 1 (take b.filled store))
unfolding flush pick
flush_taken b store t = rw t

pub flush_untaken : (b : KissBuffer) (store : List ℕ) → b.taken ≡ false → flush (reader_of b store) ≡ take b.filled store
unfolding flush pick
flush_untaken b store t = rw t

pub settle_shorter : (h : List ℕ) → length (settle h) ≤ length h
settle_shorter h = omega (arith, ap length (settle-at h), length-drop (settle_at h) h)

-- ---- the three ways in which a write is accepted, and the one in which it is refused, from a sound state

module _ (b : KissBuffer) (offered store : List ℕ) (full : length store ≡ STORE) (sound : sound_buffer b store ≡ true) where
  held_length : length (take b.filled store) ≡ b.filled
  held_length = omega (arith, length-take b.filled store, sound_filled b store sound)

  kept-written : (kept : List ℕ) → refused (reader_of b store) ≡ false → kept_back (reader_of b store) ≡ kept → length kept ≤ STORE
      → accepted (length kept) offered (over kept store) ≡ written b offered store
  kept-written kept e q h = writes_kept (reader_of b store) b offered store kept e q h full ∙ written_sound b offered store full sound

  held_short : length (held_from 1 b.filled store) < STORE
  held_short = omega (arith, settle_shorter (drop 1 (take b.filled store)), length-drop 1 (take b.filled store), held_length, sound_filled b store sound)

  pub taken_short : {n : ℕ} {d : List ℕ} → (n, d) ≡ compacted 1 b.filled store → n < STORE
  taken_short p = omega (arith, compacted-count 1 b.filled store p, held_short)

  -- a frame was taken: it is dropped
  pub written_taken : b.taken ≡ true → {n : ℕ} {d : List ℕ} → (n, d) ≡ compacted 1 b.filled store → accepted n offered d ≡ written b offered store
  written_taken t p =
      let k = held_from 1 b.filled store in
      let f = flush_taken b store t in
      let y = roomy (reader_of b store) (omega (arith, ap length f, held_short)) in
      ap₂ (λ (m : ℕ) (x : List ℕ). accepted m offered x) (compacted-count 1 b.filled store p) (compacted-left 1 b.filled store p)
      ∙ kept-written k y.0 (y.1 ∙ f) (omega (arith, held_short))

  -- there is room: all that is held is kept
  pub written_roomy : b.taken ≡ false → b.filled < STORE → accepted b.filled offered store ≡ written b offered store
  written_roomy t h =
      let k = take b.filled store in
      let f = flush_untaken b store t in
      let y = roomy (reader_of b store) (omega (arith, ap length f, held_length)) in
      let o : store ≡ over k store = sym (take-append-drop b.filled store) ∙ ap (λ (m : ℕ). k ++ drop m store) (sym held_length) in
      ap₂ (λ (m : ℕ) (x : List ℕ). accepted m offered x) (sym held_length) o ∙ kept-written k y.0 (y.1 ∙ f) (omega (arith, held_length))

  -- the store is full: what is held is the whole of it
  next_of_full : b.taken ≡ false → STORE ≤ b.filled → (STORE ≤ length (flush (reader_of b store))) × (next (reader_of b store) ≡ front (settle store))
  unfolding next
  next_of_full t h =
      let f = flush_untaken b store t in
      (omega (arith, ap length f, held_length), ap (λ (l : List ℕ). front (settle l)) (f ∙ take_all b.filled store (omega arith)))

  pub written-full : b.taken ≡ false → STORE ≤ b.filled → is_some (front (settle store)) ≡ true → not_written Full b store ≡ written b offered store
  written-full t h e =
      let y = next_of_full t h in
      writes-full (reader_of b store) b offered store (full-framed (reader_of b store) y.0 (ap is_some y.1 ∙ e)) ∙ written_sound b offered store full sound

  pub written_afresh : b.taken ≡ false → STORE ≤ b.filled → is_some (front (settle store)) ≡ false → accepted 0 offered store ≡ written b offered store
  written_afresh t h e =
      let y = next_of_full t h in
      let z = full_quiet (reader_of b store) y.0 (ap is_some y.1 ∙ e) in
      kept-written [] z.0 z.1 (omega arith)
