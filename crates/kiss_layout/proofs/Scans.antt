-- The scans for FEND: one turn of a scan by any test, and what an index says of `after_fends` and `stretch`. Assumes nothing.
use mathlib.Core.Path.{◌≡◌, refl, sym, ap, ◌∙◌}
use mathlib.Core.Bool.{Bool, true, false, not}
use mathlib.Core.Option.{Option, none, some, map}
use mathlib.Core.Logic.{◌≢◌}
use mathlib.Core.List.{List, [], ◌∷◌, ◌++◌}
use Prim.Native.Nat.{ℕ, suc, ◌+◌, ◌≤◌, ◌<◌, suc-le-suc}
use native.Mathlib.Nat.{le_of_suc-le-suc, not-suc-le-zero}
use native.Mathlib.Numerals.{add-one}
use native.Mathlib.Omega.{arith}
use lib.ListN.{length, take, drop, get_or, drop_of_length-le}
use lib.Seq.{drop-cons}
use borrow.Author.Tests.{eq-eqb, ne_eqb}
use Rattle.choice.specs.Pick.{pick}
use Rattle.kiss_layout.specs.Escape.{FEND}
use Rattle.kiss_layout.specs.Scan.{is_fend, not_fend, stretch, after_fends, run_of}

-- ---- one turn of a scan that is at index i of s

module _ (p : ℕ → Bool) (s : List ℕ) (i : ℕ) where
  pub run_on : i < length s → p (get_or s i 0) ≡ true → run_of p (drop i s) ≡ suc (run_of p (drop (i + 1) s))
  unfolding run_of pick
  run_on h e = rw (add-one, drop-cons s i 0, e)

  pub run_stops : i < length s → p (get_or s i 0) ≡ false → run_of p (drop i s) ≡ 0
  unfolding run_of pick
  run_stops h e = rw (drop-cons s i 0, e)

  pub run_ends : length s ≤ i → run_of p (drop i s) ≡ 0
  unfolding run_of
  run_ends h = rw (drop_of_length-le s h)

pub is_not : (b : ℕ) → b ≡ FEND → not_fend b ≡ false
is_not b e = rw (eq-eqb b FEND e)

pub not_is : (b : ℕ) → (b ≡ FEND → ⊥) → not_fend b ≡ true
not_is b f = rw (ne_eqb b FEND f)

-- ---- what the count of a scan says

pub run_within : (p : ℕ → Bool) (s : List ℕ) → run_of p s ≤ length s
unfolding run_of pick
run_within p [] = omega arith
run_within p (b ∷ s) = by (p b) (run_within p s)
  where
    by : (t : Bool) → run_of p s ≤ length s → pick t (suc (run_of p s)) 0 ≤ length (b ∷ s)
    by true h = omega arith
    by false h = omega arith

pub after_fends_lem : (s : List ℕ) → after_fends s ≡ drop (run_of is_fend s) s
unfolding after_fends run_of pick
after_fends_lem [] = refl
after_fends_lem (b ∷ s) = by (is_fend b) (after_fends_lem s)
  where
    by : (t : Bool) → after_fends s ≡ drop (run_of is_fend s) s → pick t (after_fends s) (b ∷ s) ≡ drop (pick t (suc (run_of is_fend s)) 0) (b ∷ s)
    by true h = h
    by false h = refl

-- the first byte behind the FENDs at the front
pub no_header : (f : List ℕ) {at : ℕ} → at ≡ run_of is_fend f → length f ≤ at → after_fends f ≡ []
no_header f {at} e h = after_fends_lem f ∙ ap (λ (n : ℕ). drop n f) (sym e) ∙ drop_of_length-le f h

pub header : (f : List ℕ) {at : ℕ} → at ≡ run_of is_fend f → at < length f → after_fends f ≡ get_or f at 0 ∷ drop (at + 1) f
header f {at} e h = after_fends_lem f ∙ ap (λ (n : ℕ). drop n f) (sym e) ∙ rw (add-one, drop-cons f at 0)

pub stretch-found : (s : List ℕ) → run_of not_fend s < length s → stretch s ≡ some (take (run_of not_fend s) s)
unfolding stretch run_of pick
stretch-found [] h = absurd (not-suc-le-zero h)
stretch-found (b ∷ s) h = by (is_fend b) (stretch-found s) h
  where
    by : (t : Bool) → (run_of not_fend s < length s → stretch s ≡ some (take (run_of not_fend s) s))
        → pick (not t) (suc (run_of not_fend s)) 0 < length (b ∷ s)
        → pick t (some []) (map (λ r. b ∷ r) (stretch s)) ≡ some (take (pick (not t) (suc (run_of not_fend s)) 0) (b ∷ s))
    by true ih h = refl
    by false ih h = ap (map (λ r. b ∷ r)) (ih (le_of_suc-le-suc h))

pub stretch-none : (s : List ℕ) → length s ≤ run_of not_fend s → stretch s ≡ none
unfolding stretch run_of pick
stretch-none [] h = refl
stretch-none (b ∷ s) h = by (is_fend b) (stretch-none s) h
  where
    by : (t : Bool) → (length s ≤ run_of not_fend s → stretch s ≡ none)
        → length (b ∷ s) ≤ pick (not t) (suc (run_of not_fend s)) 0 → pick t (some []) (map (λ r. b ∷ r) (stretch s)) ≡ none
    by true ih h = absurd (not-suc-le-zero h)
    by false ih h = ap (map (λ r. b ∷ r)) (ih (le_of_suc-le-suc h))

-- ---- stretches of bytes without a FEND

-- they hold no closed stretch
pub stretch_clear : (s : List ℕ) → ((i : ℕ) → i < length s → get_or s i 0 ≢ FEND) → stretch s ≡ none
unfolding stretch pick
stretch_clear [] f = refl
stretch_clear (b ∷ s) f = rw (ne_eqb b FEND (f 0 (omega arith)), stretch_clear s (λ i h. f (suc i) (suc-le-suc h)))

map-none : (b : ℕ) (o : Option (List ℕ)) → map (λ t. b ∷ t) o ≡ none → o ≡ none
map-none b none e = refl
map-none b (some t) e = let z : ◌≡◌ {A = ℕ} 0 1 = cc in absurd (omega arith)

-- and with a FEND behind them they are the stretch that it closes
pub stretch-closed : (s t : List ℕ) → stretch s ≡ none → stretch (s ++ FEND ∷ t) ≡ some s
unfolding stretch pick
stretch-closed [] t n = refl
stretch-closed (b ∷ s) t n = by (is_fend b) (stretch-closed s t) n
  where
    by : (q : Bool) → (stretch s ≡ none → stretch (s ++ FEND ∷ t) ≡ some s) → pick q (some []) (map (λ r. b ∷ r) (stretch s)) ≡ none
        → pick q (some []) (map (λ r. b ∷ r) (stretch (s ++ FEND ∷ t))) ≡ some (b ∷ s)
    by true ih m = let z : ◌≡◌ {A = ℕ} 0 1 = cc in absurd (omega arith)
    by false ih m = rw (ih (map-none b (stretch s) m))
