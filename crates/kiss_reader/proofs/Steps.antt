-- The reader's calls on what it holds: each leaves the frames as they are, but for the one handed out; and each gets on. Assumes nothing.
use mathlib.Core.Path.{◌≡◌, refl, sym, ap, ◌∙◌}
use mathlib.Core.Bool.{Bool, true, false, not, false≢true}
use mathlib.Core.Option.{Option, none, some, map, map-eq-none_iff, map-eq-some_iff, none-ne-some}
use mathlib.Core.List.{List, [], ◌∷◌, ◌++◌, append_assoc}
use Prim.Native.Nat.{ℕ, ◌-◌, ◌≤◌, ◌<◌, min}
use native.Mathlib.Omega.{arith}
use lib.ListN.{length, take, drop, length-append, length-take, length-drop, take-append-drop}
use lib.Seq.{take-take}
use borrow.Author.Tests.{eqb-true, leb-true, leb-false}
use Rattle.choice.specs.Pick.{pick, and}
use Rattle.kiss_layout.specs.Escape.{FEND}
use Rattle.kiss_layout.specs.Scan.{is_fend, stretch, after_fends}
use Rattle.kiss_reader.specs.Meaning.{enclosed, opened, frames_of}
use Rattle.kiss_reader.specs.Reader.{Reader, new_reader, STORE, from_fend, last_fend, settle, flush, front, is_some, next, after_next, is_full, refused, kept_back, takes, after_write}
use Rattle.kiss_reader.proofs.Settled.{Begun, none_begun, begins, begun, Settled, bare, alone, fronted, settled, settled_begun, settled_stays}
use Rattle.kiss_reader.specs.Inside.{settle_at}
use Rattle.kiss_reader.proofs.Indices.{settle-at}
use Rattle.kiss_reader.proofs.Frames.{stretch_append, kept_is, kept_long, clear_frames, fend_frames, fend_fend}

-- ---- the scans leave the frames as they are

from_frames : (h w : List ℕ) → frames_of (from_fend h ++ w) ≡ frames_of (h ++ w)
unfolding from_fend frames_of pick
from_frames [] w = refl
from_frames (b ∷ h) w = by (is_fend b) refl (from_frames h w)
  where
    by : (t : Bool) → is_fend b ≡ t → frames_of (from_fend h ++ w) ≡ frames_of (h ++ w) → frames_of (pick t (b ∷ h) (from_fend h) ++ w) ≡ frames_of (b ∷ (h ++ w))
    by true e ih = refl
    by false e ih = rw e ih

past_frames : (x w : List ℕ) → frames_of (FEND ∷ (after_fends x ++ w)) ≡ frames_of (FEND ∷ (x ++ w))
unfolding after_fends pick
past_frames [] w = refl
past_frames (b ∷ x) w = by (is_fend b) refl (past_frames x w)
  where
    by : (t : Bool) → is_fend b ≡ t → frames_of (FEND ∷ (after_fends x ++ w)) ≡ frames_of (FEND ∷ (x ++ w))
        → frames_of (FEND ∷ (pick t (after_fends x) (b ∷ x) ++ w)) ≡ frames_of (FEND ∷ b ∷ (x ++ w))
    by true e ih = rw (eqb-true b FEND e) (ih ∙ sym (fend_fend (x ++ w)))
    by false e ih = refl

last_frames : {g : List ℕ} → Begun g → (w : List ℕ) → frames_of (last_fend g ++ w) ≡ frames_of (g ++ w)
last_frames none_begun w = refl
last_frames (begins x) w = past_frames x w

settle_frames : (h w : List ℕ) → frames_of (settle h ++ w) ≡ frames_of (h ++ w)
unfolding settle
settle_frames h w = last_frames (begun h) w ∙ from_frames h w

pub length-settle : (h : List ℕ) → length (settle h) ≤ length h
length-settle h = omega (arith, ap length (settle-at h), length-drop (settle_at h) h)

pub length-flush : (r : Reader) → length (flush r) ≤ length r.held
unfolding flush pick
length-flush r = by r.taken
  where
    by : (t : Bool) → length (pick t (settle (drop 1 r.held)) r.held) ≤ length r.held
    by true = omega (arith, length-settle (drop 1 r.held), length-drop 1 r.held)
    by false = omega arith

-- ---- a frame at the front

-- a stretch is shorter than what it was found in, and not empty where that begins with no FEND
length-stretch : (x s : List ℕ) → stretch x ≡ some s → length s < length x
unfolding stretch pick
length-stretch [] s e = absurd (none-ne-some s e)
length-stretch (b ∷ x) s e = by (is_fend b) (stretch x) (length-stretch x) e
  where
    by : (t : Bool) (o : Option (List ℕ)) → ((s : List ℕ) → o ≡ some s → length s < length x)
        → pick t (some []) (map (λ s. b ∷ s) o) ≡ some s → length s < length (b ∷ x)
    by true o ih k = let q : [] ≡ s = cc in omega (arith, ap length q)
    by false none ih k = absurd (none-ne-some s k)
    by false (some r) ih k = let q : b ∷ r ≡ s = cc in omega (arith, ap length q, ih r refl)

some-stretch : (b : ℕ) (x s : List ℕ) → is_fend b ≡ false → stretch (b ∷ x) ≡ some s → 1 ≤ length s
unfolding stretch pick
some-stretch b x s e k =
    let j : map (λ r. b ∷ r) (stretch x) ≡ some s = rw e at k in
    omega (arith, ap length ((map-eq-some_iff (λ r. b ∷ r) (stretch x)).0 j).2)

whole-frame : (y s w : List ℕ) → stretch y ≡ some s → 1 ≤ length s → length y < STORE → frames_of (FEND ∷ (y ++ w)) ≡ enclosed s ∷ frames_of (y ++ w)
whole-frame y s w e l k = rw (fend_frames (y ++ w), stretch_append y w, e, kept_is s l (omega (arith, length-stretch y s e)))

front_frames : {g : List ℕ} → Settled g → (f w : List ℕ) → length g ≤ STORE → front g ≡ some f → frames_of (g ++ w) ≡ f ∷ frames_of (drop 1 g ++ w)
unfolding front stretch
front_frames bare f w l e = absurd (none-ne-some f e)
front_frames alone f w l e = absurd (none-ne-some f e)
front_frames (fronted b x n) f w l e = by (stretch (b ∷ x)) refl e
  where
    by : (o : Option (List ℕ)) → stretch (b ∷ x) ≡ o → map enclosed o ≡ some f → frames_of (FEND ∷ ((b ∷ x) ++ w)) ≡ f ∷ frames_of ((b ∷ x) ++ w)
    by none p k = absurd (none-ne-some f k)
    by (some s) p k = whole-frame (b ∷ x) s w p (some-stretch b x s n p) l ∙ (cc)

-- ---- no whole frame at the front

-- what is held before w gives nothing, where nothing that closes it in w makes a frame of it
quiet_frames : {g : List ℕ} → Begun g → (w : List ℕ) → front g ≡ none
    → ((y : List ℕ) → g ≡ FEND ∷ y → opened (map (λ s. y ++ s) (stretch w)) ≡ []) → frames_of (g ++ w) ≡ frames_of w
unfolding front frames_of pick
quiet_frames none_begun w e k = refl
quiet_frames (begins x) w e k =
    let c : stretch x ≡ none = (map-eq-none_iff _ _).0 e in
    rw (stretch_append x w, c, k x refl) (clear_frames x w c)

quiet_end : {g : List ℕ} → Begun g → front g ≡ none → frames_of (g ++ []) ≡ []
unfolding frames_of stretch
quiet_end b e = quiet_frames b [] e (λ y q. refl)

quiet_full : {g : List ℕ} → Begun g → (w : List ℕ) → front g ≡ none → STORE ≤ length g → frames_of (g ++ w) ≡ frames_of w
quiet_full {g} b w e l = quiet_frames b w e (λ y q. by y (stretch w) q)
  where
    by : (y : List ℕ) (o : Option (List ℕ)) → g ≡ FEND ∷ y → opened (map (λ s. y ++ s) o) ≡ []
    by y none q = refl
    by y (some r) q = kept_long (y ++ r) (omega (arith, ap length q, length-append y r))

-- ---- next

-- a frame that was handed out is dropped: its closing FEND is the new front
flush-next : (r : Reader) (f : List ℕ) → next r ≡ some f → flush (after_next r) ≡ settle (drop 1 (settle (flush r)))
unfolding flush after_next pick
flush-next r f e = rw e

module _ (r : Reader) (w : List ℕ) where
  -- a call that hands out the frame f takes it from the frames
  pub next_frames : (f : List ℕ) → length r.held ≤ STORE → next r ≡ some f → frames_of (flush r ++ w) ≡ f ∷ frames_of (flush (after_next r) ++ w)
  unfolding next
  next_frames f l e =
      let g : List ℕ = settle (flush r) in
      sym (settle_frames (flush r) w)
      ∙ front_frames (settled (flush r)) f w (omega (arith, length-settle (flush r), length-flush r)) e
      ∙ ap {B = List (List ℕ)} (λ fs. f ∷ fs) (sym (settle_frames (drop 1 g) w) ∙ rw (flush-next r f e))

  -- a call leaves the frames in what it holds
  pub search_frames : frames_of (flush r ++ w) ≡ frames_of ((after_next r).held ++ w)
  unfolding after_next
  search_frames = sym (settle_frames (flush r) w)

-- ---- what holds once frames were taken until none is left

pub record Still (r : Reader) : Type 0 where
  pub untaken : r.taken ≡ false
  pub room : length r.held ≤ STORE
  pub shape : Settled r.held
  pub quiet : front r.held ≡ none

pub still_new : Still new_reader
unfolding front stretch
still_new = record { untaken = refl; room = omega arith; shape = bare; quiet = refl }

pub still_after : (r : Reader) → length r.held ≤ STORE → next r ≡ none → Still (after_next r)
unfolding next after_next
still_after r l e = record { untaken = rw e; room = omega (arith, length-settle (flush r), length-flush r); shape = settled (flush r); quiet = e }

pub still_ends : (r : Reader) → Still r → frames_of (r.held ++ []) ≡ []
still_ends r s = quiet_end (settled_begun s.shape) s.quiet

-- ---- write

pub length-kept : (r : Reader) → length (kept_back r) ≤ length r.held
unfolding kept_back pick
length-kept r = by (and (is_full r) (not (is_some (next r))))
  where
    by : (t : Bool) → length (pick t [] (flush r)) ≤ length r.held
    by true = omega arith
    by false = length-flush r

-- nothing that was handed out is left to drop
pub still_flush : (r : Reader) → Still r → flush r ≡ r.held
unfolding flush pick
still_flush r s = rw s.untaken

kept_frames : (r : Reader) (w : List ℕ) → Still r → frames_of (r.held ++ w) ≡ frames_of (kept_back r ++ w)
unfolding kept_back is_full pick and
kept_frames r w s = by (is_full r) (not (is_some (next r))) refl
  where
    by : (a b : Bool) → is_full r ≡ a → frames_of (r.held ++ w) ≡ frames_of (pick (and a b) [] (flush r) ++ w)
    by true true e = quiet_full (settled_begun s.shape) w s.quiet (leb-true STORE (length r.held) (rw (still_flush r s) at e))
    by true false e = rw (still_flush r s)
    by false b e = rw (still_flush r s)

pub length_write : (r : Reader) (o : List ℕ) → length r.held ≤ STORE → length (after_write r o).held ≤ STORE
unfolding after_write takes
length_write r o l = omega (arith, length-append (kept_back r) (take (takes r o) o), length-take (takes r o) o, length-kept r)

-- what a write takes of the next n bytes, before what it leaves
cut : (n k : ℕ) (w : List ℕ) → k ≤ length (take n w) → take k (take n w) ++ drop k w ≡ w
cut n k w h = rw (take-take k n w (omega (arith, length-take n w))) (take-append-drop k w)

pub write_frames : (r : Reader) (n : ℕ) (w : List ℕ) → Still r → frames_of (r.held ++ w) ≡ frames_of (flush (after_write r (take n w)) ++ drop (takes r (take n w)) w)
unfolding flush after_write takes pick
write_frames r n w s =
    let k : ℕ = takes r (take n w) in
    kept_frames r w s
    ∙ ap (λ (z : List ℕ). frames_of (kept_back r ++ z)) (sym (cut n k w (omega arith)))
    ∙ rw append_assoc

-- ---- and the calls get on

still_next : (r : Reader) → Still r → next r ≡ none
unfolding next
still_next r s = rw (still_flush r s, settled_stays s.shape) s.quiet

-- once none is left, no write is refused
pub still_not_refused : (r : Reader) → Still r → refused r ≡ false
unfolding refused and
still_not_refused r s = rw (still_next r s) (by (is_full r))
  where
    by : (t : Bool) → and t false ≡ false
    by true = refl
    by false = refl

-- a write that is not refused has room
pub takes-some : (r : Reader) (o : List ℕ) → refused r ≡ false → 1 ≤ length o → 1 ≤ takes r o
unfolding refused takes kept_back is_full pick and
takes-some r o n h = by (is_full r) (is_some (next r)) refl n
  where
    by : (a b : Bool) → is_full r ≡ a → and a b ≡ false → 1 ≤ min (length o) (STORE - length (pick (and a (not b)) [] (flush r)))
    by true true e k = absurd (false≢true (sym k))
    by true false e k = omega arith
    by false b e k = omega (arith, leb-false STORE (length (flush r)) e)

-- what is left to search gets shorter with each frame handed out
front_length : (g f : List ℕ) → front g ≡ some f → 1 ≤ length g
unfolding front stretch
front_length [] f e = absurd (none-ne-some f e)
front_length (b ∷ g) f e = omega arith

pub next_shorter : (r : Reader) (f : List ℕ) → next r ≡ some f → length (flush (after_next r)) < length (flush r)
unfolding next
next_shorter r f e =
    let g : List ℕ = settle (flush r) in
    rw (flush-next r f e) (omega (arith, length-settle (flush r), length-settle (drop 1 g), length-drop 1 g, front_length g f e))
