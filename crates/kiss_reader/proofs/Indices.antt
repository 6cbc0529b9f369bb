-- The reader's scans by index: where `settle` puts the front, and where the frame at the front ends. Assumes nothing.
use mathlib.Core.Path.{◌≡◌, refl, ◌∙◌}
use mathlib.Core.Bool.{Bool, true, false, not}
use mathlib.Core.Option.{Option, none, some, map}
use mathlib.Core.List.{List, [], ◌∷◌}
use Prim.Native.Nat.{ℕ, suc, ◌+◌, ◌-◌, ◌≤◌, ◌<◌}
use native.Mathlib.Nat.{le_of_suc-le-suc}
use native.Mathlib.Numerals.{add-two}
use native.Mathlib.Omega.{arith}
use lib.Dec.{ltb}
use lib.ListN.{length, take, drop, get_or, length-drop}
use lib.Seq.{drop-drop, take-suc}
use borrow.Author.Tests.{eqb-true, ltb-true, ltb-false, not-false}
use Rattle.choice.specs.Pick.{pick}
use Rattle.kiss_layout.specs.Escape.{FEND}
use Rattle.kiss_layout.specs.Scan.{is_fend, not_fend, stretch, after_fends, run_of}
use Rattle.kiss_layout.proofs.Scans.{run_within, stretch-found, stretch-none}
use Rattle.kiss_reader.specs.Meaning.{enclosed}
use Rattle.kiss_reader.specs.Reader.{from_fend, last_fend, settle, front, is_some}
use Rattle.kiss_reader.specs.Inside.{settle_at}
use Rattle.kiss_reader.proofs.Settled.{Begun, none_begun, begins, begun, settled, settled_begun, settled_stays, begun-begins}

-- ---- settle

pub from_fend_lem : (h : List ℕ) → from_fend h ≡ drop (run_of not_fend h) h
unfolding from_fend run_of pick
from_fend_lem [] = refl
from_fend_lem (b ∷ h) = by (is_fend b) (from_fend_lem h)
  where
    by : (t : Bool) → from_fend h ≡ drop (run_of not_fend h) h → pick t (b ∷ h) (from_fend h) ≡ drop (pick (not t) (suc (run_of not_fend h)) 0) (b ∷ h)
    by true e = refl
    by false e = e

last_of_run : (x : List ℕ) → FEND ∷ after_fends x ≡ drop (run_of is_fend x) (FEND ∷ x)
unfolding after_fends run_of pick
last_of_run [] = refl
last_of_run (b ∷ x) = by (is_fend b) refl (last_of_run x)
  where
    by : (t : Bool) → is_fend b ≡ t → FEND ∷ after_fends x ≡ drop (run_of is_fend x) (FEND ∷ x)
        → FEND ∷ pick t (after_fends x) (b ∷ x) ≡ drop (pick t (suc (run_of is_fend x)) 0) (FEND ∷ b ∷ x)
    by true e ih = rw (eqb-true b FEND e) ih
    by false e ih = refl

pub last_fend_lem : {g : List ℕ} → Begun g → last_fend g ≡ drop (run_of is_fend g - 1) g
unfolding run_of pick
last_fend_lem none_begun = refl
last_fend_lem (begins x) = let e : suc (run_of is_fend x) - 1 ≡ run_of is_fend x = omega arith in rw e (last_of_run x)

pub settle-at : (h : List ℕ) → settle h ≡ drop (settle_at h) h
unfolding settle
settle-at h = last_fend_lem (begun h) ∙ rw (from_fend_lem h) (drop-drop (run_of is_fend (drop (run_of not_fend h) h) - 1) (run_of not_fend h) h)

pub settle_within : (h : List ℕ) → settle_at h ≤ length h
settle_within h =
    omega (arith, run_within not_fend h, run_within is_fend (drop (run_of not_fend h) h), length-drop (run_of not_fend h) h)

pub settle-settle : (h : List ℕ) → settle (settle h) ≡ settle h
settle-settle h = settled_stays (settled h)

pub settle-begins : (h : List ℕ) → 1 ≤ length (settle h) → get_or (settle h) 0 0 ≡ FEND
settle-begins h l = begun-begins (settled_begun (settled h)) l

-- ---- the frame at the front

-- a scan that does not end at the end stands at a byte that fails its test
pub run_stopped : (p : ℕ → Bool) (s : List ℕ) → run_of p s < length s → p (get_or s (run_of p s) 0) ≡ false
unfolding run_of pick
run_stopped p [] l = absurd (omega arith)
run_stopped p (b ∷ s) l = by (p b) refl (run_stopped p s) l
  where
    by : (t : Bool) → p b ≡ t → (run_of p s < length s → p (get_or s (run_of p s) 0) ≡ false)
        → pick t (suc (run_of p s)) 0 < length (b ∷ s) → p (get_or (b ∷ s) (pick t (suc (run_of p s)) 0) 0) ≡ false
    by true e ih k = ih (le_of_suc-le-suc k)
    by false e ih k = e

pub stops_at_fend : (s : List ℕ) → run_of not_fend s < length s → get_or s (run_of not_fend s) 0 ≡ FEND
stops_at_fend s l = eqb-true (get_or s (run_of not_fend s) 0) FEND (not-false (is_fend (get_or s (run_of not_fend s) 0)) (run_stopped not_fend s l))

pub front-found : (h : List ℕ) → get_or h 0 0 ≡ FEND → run_of not_fend (drop 1 h) < length (drop 1 h) → front h ≡ some (take (run_of not_fend (drop 1 h) + 2) h)
unfolding front
front-found [] e l = absurd (omega arith)
front-found (b ∷ h) e l = rw (stretch-found h l, add-two, take-suc h (run_of not_fend h) 0 l, stops_at_fend h l, e)

pub front-none : (h : List ℕ) → length (drop 1 h) ≤ run_of not_fend (drop 1 h) → front h ≡ none
unfolding front
front-none h l = rw (stretch-none (drop 1 h) l)

-- ---- whether a FEND closes what follows

pub stretch_tested : (s : List ℕ) → is_some (stretch s) ≡ ltb (run_of not_fend s) (length s)
stretch_tested s = by (ltb (run_of not_fend s) (length s)) refl
  where
    by : (t : Bool) → ltb (run_of not_fend s) (length s) ≡ t → is_some (stretch s) ≡ t
    by true e = rw (stretch-found s (ltb-true (run_of not_fend s) (length s) e))
    by false e = rw (stretch-none s (ltb-false (run_of not_fend s) (length s) e))

pub front_tested : (h : List ℕ) → is_some (front h) ≡ ltb (run_of not_fend (drop 1 h)) (length (drop 1 h))
unfolding front
front_tested h = by (stretch (drop 1 h)) ∙ stretch_tested (drop 1 h)
  where
    by : (o : Option (List ℕ)) → is_some (map enclosed o) ≡ is_some o
    by none = refl
    by (some s) = refl
