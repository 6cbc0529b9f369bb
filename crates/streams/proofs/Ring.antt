-- The ring of eight places: its bounds after each call, how many frames wait, and which. Assumes nothing.
use mathlib.Core.Path.{◌≡◌, refl, sym, ap, ap₂, ◌∙◌}
use mathlib.Core.Bool.{Bool, true, false, false≢true}
use mathlib.Core.Logic.{◌≢◌}
use mathlib.Core.List.{List, [], ◌∷◌, ◌++◌}
use Prim.Native.Nat.{ℕ, zero, suc, ◌+◌, ◌*◌, ◌-◌, ◌%◌, ◌≤◌, ◌<◌}
use native.Mathlib.Omega.{arith}
use lib.Dec.{ltb, eqb}
use lib.ListN.{length, take, drop}
use borrow.Author.Tests.{lt-ltb, ltb-true, ltb-false, eq-eqb, eqb-true, eqb-false}
use Rattle.choice.specs.Pick.{pick, and_snd, and_both}
use Rattle.room.specs.Room.{placed}
use Rattle.room.proofs.Places.{placed_there, kept_before, kept_beyond}
use Rattle.protocol.specs.declared.StreamFrame.{StreamFrame}
use Rattle.streams.specs.declared.StreamQueue.{StreamQueue}
use Rattle.streams.specs.Layout.{FRAME, frame_of}
use Rattle.streams.specs.Queue.{PLACES, STORE, LSF, sound_queue, empty_queue, frame_at, after, queued, unqueued, with_pending}
use Rattle.streams.specs.Promises.{count, frames_from}
use Rattle.streams.proofs.Cases.{next_below, curr_below}

-- ---- bounds

sound_is : (q : StreamQueue) → q.next < PLACES → q.curr < PLACES → (q.full ≡ true → q.next ≡ q.curr) → sound_queue q ≡ true
unfolding sound_queue pick
sound_is q h k f = and_both (lt-ltb q.next PLACES h) (and_both (lt-ltb q.curr PLACES k) (by q.full f))
  where
    by : (t : Bool) → (t ≡ true → q.next ≡ q.curr) → pick t (eqb q.next q.curr) true ≡ true
    by true g = eq-eqb q.next q.curr (g refl)
    by false g = refl

full_equal : (q : StreamQueue) → sound_queue q ≡ true → q.full ≡ true → q.next ≡ q.curr
unfolding sound_queue pick
full_equal q e t =
    eqb-true q.next q.curr (ap (λ (x : Bool). pick x (eqb q.next q.curr) true) (sym t) ∙ and_snd _ _ (and_snd _ _ e))

-- an LSF that waits is no matter of bounds
pub pending_sound : (p : Bool) (q : StreamQueue) → sound_queue q ≡ true → sound_queue (with_pending p q) ≡ true
unfolding sound_queue
pending_sound p q e = e

-- an empty queue has equal places, and one that a frame was put into is not empty
pub empty_equal : (q : StreamQueue) → empty_queue q ≡ true → q.next ≡ q.curr
unfolding empty_queue pick
empty_equal q m = by q.full m
  where
    by : (t : Bool) → pick t false (eqb q.next q.curr) ≡ true → q.next ≡ q.curr
    by true m = absurd (false≢true m)
    by false m = eqb-true q.next q.curr m

pub queued_waits : (q : StreamQueue) → empty_queue (queued q) ≡ false
unfolding empty_queue queued pick
queued_waits q = by (eqb (after q.next) q.curr)
  where
    by : (t : Bool) → pick t false t ≡ false
    by true = refl
    by false = refl

module _ (q : StreamQueue) (e : sound_queue q ≡ true) where
  pub queued_sound : sound_queue (queued q) ≡ true
  unfolding queued
  queued_sound = sound_is (queued q) (omega arith) (curr_below q e) (eqb-true (after q.next) q.curr)

  pub unqueued_sound : sound_queue (unqueued q) ≡ true
  unfolding unqueued
  unqueued_sound = sound_is (unqueued q) (next_below q e) (omega arith) (λ h. absurd (false≢true h))

  -- ---- how many frames wait

  count_roomy : q.full ≡ false → count q ≡ (q.next + PLACES - q.curr) % PLACES
  unfolding count pick
  count_roomy t = rw t

  pub count_small : q.full ≡ false → count q < PLACES
  count_small t = omega (arith, count_roomy t)

  pub count_reaches : q.full ≡ false → (q.curr + count q) % PLACES ≡ q.next
  count_reaches t = rw (count_roomy t) (omega (arith, next_below q e, curr_below q e))

  pub count-queued : q.full ≡ false → count (queued q) ≡ suc (count q)
  unfolding queued count pick
  count-queued t = rw (count_roomy t) (by (eqb (after q.next) q.curr) refl)
    where
      by : (b : Bool) → eqb (after q.next) q.curr ≡ b → pick b PLACES ((after q.next + PLACES - q.curr) % PLACES) ≡ suc ((q.next + PLACES - q.curr) % PLACES)
      by true h = omega (arith, eqb-true (after q.next) q.curr h, next_below q e, curr_below q e)
      by false h = omega (arith, eqb-false (after q.next) q.curr h, next_below q e, curr_below q e)

  pub count-unqueued : empty_queue q ≡ false → count q ≡ suc (count (unqueued q))
  unfolding empty_queue unqueued count pick
  count-unqueued m = by q.full refl m
    where
      by : (t : Bool) → q.full ≡ t → pick t false (eqb q.next q.curr) ≡ false
          → pick t PLACES ((q.next + PLACES - q.curr) % PLACES) ≡ suc ((q.next + PLACES - after q.curr) % PLACES)
      by true t m = omega (arith, full_equal q e t, next_below q e, curr_below q e)
      by false t m = omega (arith, eqb-false q.next q.curr m, next_below q e, curr_below q e)

-- ---- which

module _ (s s' : List ℕ) where
  -- at other places stands what stood there
  pub frames_same : ((p : ℕ) → p < PLACES → frame_at p s' ≡ frame_at p s) → (n c : ℕ) → c < PLACES → frames_from n c s' ≡ frames_from n c s
  unfolding frames_from
  frames_same f zero c h = refl
  frames_same f (suc n) c h = ap₂ (λ (x : StreamFrame) (xs : List StreamFrame). x ∷ xs) (f c h) (frames_same f n (after c) (omega arith))

  -- a frame at the next place comes last
  pub frames_more : (next : ℕ) (f : StreamFrame) → frame_at next s' ≡ f → ((p : ℕ) → p < PLACES → p ≢ next → frame_at p s' ≡ frame_at p s)
      → (n c : ℕ) → c < PLACES → n < PLACES → (c + n) % PLACES ≡ next → frames_from (suc n) c s' ≡ frames_from n c s ++ (f ∷ [])
  unfolding frames_from
  frames_more next f here apart zero c h k e =
      let p : c ≡ next = omega arith in ap (λ (x : StreamFrame). x ∷ []) (ap (λ (i : ℕ). frame_at i s') p ∙ here)
  frames_more next f here apart (suc n) c h k e =
      ap₂ (λ (x : StreamFrame) (xs : List StreamFrame). x ∷ xs) (apart c h (λ p. absurd (omega arith)))
      (frames_more next f here apart n (after c) (omega arith) (omega arith) (omega arith))

-- ---- in a store with a frame placed in it, or an LSF

module _ (b s : List ℕ) (next : ℕ) (small : next < PLACES) (frame : length b ≡ FRAME) (whole : length s ≡ STORE) where
  fits : FRAME * next + length b ≤ length s
  fits = omega arith

  pub placed-here : frame_at next (placed b s (FRAME * next)) ≡ frame_of b
  placed-here = ap frame_of (placed_there b s (FRAME * next) fits FRAME frame)

  pub placed_apart : (p : ℕ) → p < PLACES → p ≢ next → frame_at p (placed b s (FRAME * next)) ≡ frame_at p s
  placed_apart p h f = by (ltb p next) refl
    where
      by : (t : Bool) → ltb p next ≡ t → frame_at p (placed b s (FRAME * next)) ≡ frame_at p s
      by true e = let k = ltb-true p next e in ap frame_of (kept_before b s (FRAME * next) fits (FRAME * p) FRAME (omega arith))
      by false e =
          let k = ltb-false p next e in ap (λ (l : List ℕ). frame_of (take FRAME l)) (kept_beyond b s (FRAME * next) fits (FRAME * p) (omega (arith, k, f)))

  pub placed_lsf : take 30 (drop LSF (placed b s (FRAME * next))) ≡ take 30 (drop LSF s)
  placed_lsf = ap (take 30) (kept_beyond b s (FRAME * next) fits LSF (omega arith))

module _ (l s : List ℕ) (thirty : length l ≡ 30) (whole : length s ≡ STORE) where
  pub lsf_there : take 30 (drop LSF (placed l s LSF)) ≡ l
  lsf_there = placed_there l s LSF (omega arith) 30 thirty

  pub lsf_apart : (p : ℕ) → p < PLACES → frame_at p (placed l s LSF) ≡ frame_at p s
  lsf_apart p h = ap frame_of (kept_before l s LSF (omega arith) (FRAME * p) FRAME (omega arith))
