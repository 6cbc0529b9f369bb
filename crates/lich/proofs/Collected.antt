-- The LICH collection over calls: which segments have been heard, and what they hold. Assumes nothing.
use mathlib.Core.Path.{◌≡◌, refl, sym, ap, ◌∙◌}
use mathlib.Core.Bool.{Bool, true, false}
use mathlib.Core.List.{List, [], ◌∷◌}
use Prim.Native.Nat.{ℕ, ◌+◌, ◌*◌, ◌/◌, ◌%◌, ◌≤◌, ◌<◌}
use native.Mathlib.Omega.{arith}
use borrow.Author.Tests.{eqb-true, eqb-false, ltb-true, ltb-false}
use lib.Dec.{leb, ltb, eqb}
use lib.ListN.{length, take, drop, get_or, replicate}
use lib.Seq.{get_or-take, get_or-drop, ext_get_or}
use Rattle.choice.specs.Pick.{pick, pick_all}
use Rattle.room.proofs.Places.{placed-length, placed_there, kept_before, kept_beyond}
use Rattle.lich.specs.declared.LichCollection.{LichCollection}
use Rattle.lich.specs.Lich.{segment_of, heard, with_segment}
use Rattle.lich.specs.Promises.{Segment, after_all, is_among, OfLsf, none, more}
use Rattle.lich.proofs.Masks.{with_heard, stays_small, then_heard, order_free}

-- ---- any calls

-- what every collection is that began as a new one
pub record Sound (c : LichCollection) : Type 0 where
  pub small : c.mask < 64
  pub thirty : length c.segments ≡ 30

-- the collection after one call
abbrev pub after : Segment → LichCollection → LichCollection
after s c = with_segment s.index s.bytes c

module _ (s : Segment) (c : LichCollection) (g : Sound c) where
  fits : 5 * s.index + length s.bytes ≤ length c.segments
  fits = omega arith

  after_sound : Sound (after s c)
  unfolding with_segment
  after_sound = record {
    small = stays_small c.mask s.index g.small s.in_range;
    thirty = placed-length s.bytes c.segments (5 * s.index) fits ∙ g.thirty;
  }

  -- segment i of the bytes
  segment_after : (f : List ℕ) → s.bytes ≡ segment_of s.index f → (i : ℕ) → segment_of i (after s c).segments ≡ pick (eqb i s.index) (segment_of i f) (segment_of i c.segments)
  unfolding with_segment
  segment_after f e i =
      pick_all (λ (x : List ℕ). segment_of i (after s c).segments ≡ x) (eqb i s.index) (segment_of i f) (segment_of i c.segments)
      (λ t. let q : i ≡ s.index = eqb-true i s.index t in rw q (placed_there s.bytes c.segments (5 * s.index) fits 5 s.five ∙ e))
      (λ t. go (eqb-false i s.index t) (ltb i s.index) refl)
    where
      go : (i ≡ s.index → ⊥) → (b : Bool) → ltb i s.index ≡ b → segment_of i (after s c).segments ≡ segment_of i c.segments
      go n true q = kept_before s.bytes c.segments (5 * s.index) fits (5 * i) 5 (omega (arith, ltb-true i s.index q))
      go n false q = ap (take 5) (kept_beyond s.bytes c.segments (5 * s.index) fits (5 * i) (omega (arith, n, ltb-false i s.index q)))

either : {A : Type 0} (a b : Bool) (x y : A) → pick a x (pick b x y) ≡ pick (pick b true a) x y
unfolding pick
either true true x y = refl
either true false x y = refl
either false true x y = refl
either false false x y = refl

pub all_sound_lem : (ss : List Segment) (c : LichCollection) → Sound c → Sound (after_all ss c)
all_sound_lem [] c g = g
all_sound_lem (s ∷ ss) c g = all_sound_lem ss (after s c) (after_sound s c g)

pub all_heard : (ss : List Segment) (c : LichCollection) → Sound c → (i : ℕ) → i < 6 → heard i (after_all ss c).mask ≡ pick (is_among i ss) 1 (heard i c.mask)
unfolding pick with_segment
all_heard [] c g i h = refl
all_heard (s ∷ ss) c g i h =
    all_heard ss (after s c) (after_sound s c g) i h
    ∙ ap (λ (x : ℕ). pick (is_among i ss) 1 x) (then_heard c.mask i s.index g.small h s.in_range)
    ∙ either (is_among i ss) (eqb i s.index) 1 (heard i c.mask)

pub all_held : (f : List ℕ) (ss : List Segment) → OfLsf f ss → (c : LichCollection) → Sound c → (i : ℕ)
    → segment_of i (after_all ss c).segments ≡ pick (is_among i ss) (segment_of i f) (segment_of i c.segments)
unfolding pick
all_held f [] none c g i = refl
all_held f (s ∷ ss) (more e o) c g i =
    all_held f ss o (after s c) (after_sound s c g) i
    ∙ ap (λ (x : List ℕ). pick (is_among i ss) (segment_of i f) x) (segment_after s c g f e i)
    ∙ either (is_among i ss) (eqb i s.index) (segment_of i f) (segment_of i c.segments)

-- a segment heard first might as well be heard last
pub heard_last : (ss : List Segment) (c d : LichCollection) (i : ℕ) → Sound c → i < 6 → d.mask ≡ with_heard i c.mask
    → (after_all ss d).mask ≡ with_heard i (after_all ss c).mask
unfolding with_segment
heard_last [] c d i g h e = e
heard_last (s ∷ ss) c d i g h e =
    heard_last ss (after s c) (after s d) i (after_sound s c g) h (ap (with_heard s.index) e ∙ order_free c.mask s.index i g.small s.in_range h)

-- ---- thirty bytes are their six segments

by_segment : (s : List ℕ) (n : ℕ) → get_or s n 0 ≡ get_or (segment_of (n / 5) s) (n % 5) 0
by_segment s n =
    let e : 5 * (n / 5) + n % 5 ≡ n = omega arith in
    sym (get_or-take 5 (drop (5 * (n / 5)) s) (n % 5) 0 (omega arith) ∙ get_or-drop (5 * (n / 5)) s (n % 5) 0 ∙ ap (λ (x : ℕ). get_or s x 0) e)

pub six_segments : (s f : List ℕ) → length s ≡ 30 → length f ≡ 30 → ((i : ℕ) → i < 6 → segment_of i s ≡ segment_of i f) → s ≡ f
six_segments s f h k e =
    ext_get_or 0 s f (h ∙ sym k) (λ n l. by_segment s n ∙ ap (λ (x : List ℕ). get_or x (n % 5) 0) (e (n / 5) (omega arith)) ∙ sym (by_segment f n))
