-- What the reader's scans find. Assumes nothing.
use mathlib.Core.Path.{◌≡◌, refl, sym, ◌∙◌, ap}
use mathlib.Core.Bool.{Bool, true, false}
use mathlib.Core.Option.{Option, none, some}
use mathlib.Core.List.{List, [], ◌∷◌}
use Prim.Native.Nat.{ℕ, zero, suc, ◌+◌, ◌-◌, ◌≤◌, ◌<◌}
use native.Mathlib.Nat.{le_of_suc-le-suc, not-suc-le-zero}
use native.Mathlib.Omega.{arith}
use lib.Dec.{ltb}
use lib.ListN.{length, take, drop, get_or, length-append, length-drop, length-take}
use lib.Seq.{take_all}
use borrow.Author.Tests.{eq-eqb, ne_eqb, ltb-true, ltb-false}
use Rattle.std.specs.Prelude.{None, Some}
use Rattle.std.specs.Bool.{then_some}
use Rattle.std.specs.Option.{is_some as has, unwrap_or}
use Rattle.choice.specs.Pick.{and}
use Rattle.kiss_layout.specs.Escape.{FEND}
use Rattle.kiss_layout.specs.Scan.{not_fend, run_of}
use Rattle.kiss_layout.proofs.Scans.{stretch-found}
use Rattle.kiss_reader.specs.Meaning.{enclosed}
use Rattle.kiss_reader.specs.Reader.{front, is_some}
use Rattle.kiss_reader.proofs.Indices.{front-none, stretch_tested}
use Rattle.kiss_reader.specs.Front.{stands_first, or_empty, length_of}

-- a part that goes on to the end
pub to_the_end : (i : ℕ) (h : List ℕ) → take (length h - i) (drop i h) ≡ drop i h
to_the_end i h = take_all (length h - i) (drop i h) (simp length-drop (omega arith))

-- ---- front_len

front-is : (h : List ℕ) → run_of not_fend (drop 1 h) < length (drop 1 h) → front h ≡ some (enclosed (take (run_of not_fend (drop 1 h)) (drop 1 h)))
unfolding front
front-is h l = rw (stretch-found (drop 1 h) l)

pub front_length_found : (h : List ℕ) → run_of not_fend (drop 1 h) < length (drop 1 h) → length (or_empty (front h)) ≡ run_of not_fend (drop 1 h) + 2
unfolding front
front_length_found h l =
    let n = run_of not_fend (drop 1 h) in
    rw (stretch-found (drop 1 h) l) (omega (arith, length-append (take n (drop 1 h)) (FEND ∷ []), length-take n (drop 1 h)))

pub front_length_none : (h : List ℕ) → length (drop 1 h) ≤ run_of not_fend (drop 1 h) → length (or_empty (front h)) ≡ 0
front_length_none h l = rw (front-none h l)

pub front_missing : (h : List ℕ) → length h < 1 → None ≡ length_of (front h)
front_missing h l = rw (front-none h (omega (arith, l, length-drop 1 h)))

-- what the scan of the bytes behind the first says of the front
pub front_measured : (h s : List ℕ) (n : ℕ) → s ≡ drop 1 h → n ≡ run_of not_fend s → then_some (ltb n (length s)) (n + 2) ≡ length_of (front h)
front_measured h s n e f = rw (f, e) (by (ltb (run_of not_fend (drop 1 h)) (length (drop 1 h))) refl)
  where
    by : (t : Bool) → ltb (run_of not_fend (drop 1 h)) (length (drop 1 h)) ≡ t → then_some t (run_of not_fend (drop 1 h) + 2) ≡ length_of (front h)
    by true q =
        let l = ltb-true (run_of not_fend (drop 1 h)) (length (drop 1 h)) q in
        rw (front-is h l) (ap Some (sym (ap (λ (o : Option (List ℕ)). length (or_empty o)) (sym (front-is h l)) ∙ front_length_found h l)))
    by false q = rw (front-none h (ltb-false (run_of not_fend (drop 1 h)) (length (drop 1 h)) q))

-- ---- holds_frame

pub length-some : (o : Option (List ℕ)) → has (length_of o) ≡ is_some o
length-some none = refl
length-some (some f) = refl

pub length-or_empty : (o : Option (List ℕ)) → unwrap_or (length_of o) 0 ≡ length (or_empty o)
length-or_empty none = refl
length-or_empty (some f) = refl

-- ---- stands_first

get_d_any : (l : List ℕ) (i a b : ℕ) → i < length l → get_or l i a ≡ get_or l i b
get_d_any [] i a b h = absurd (not-suc-le-zero h)
get_d_any (x ∷ l) zero a b h = refl
get_d_any (x ∷ l) (suc i) a b h = get_d_any l i a b (le_of_suc-le-suc h)

no_second : (a : Bool) (b : Bool) → and a (and false b) ≡ false
unfolding and
no_second true b = refl
no_second false b = refl

pub stands_short : (h : List ℕ) → length h < 2 → stands_first h ≡ false
unfolding stands_first
stands_short [] h = no_second _ _
stands_short (x ∷ []) h = no_second _ _
stands_short (x ∷ y ∷ l) h = absurd (omega arith)

pub stands_unopened : (h : List ℕ) → (get_or h 0 0 ≡ FEND → ⊥) → stands_first h ≡ false
unfolding stands_first and
stands_unopened h f = rw (ne_eqb (get_or h 0 0) FEND f)

pub stands_empty : (h : List ℕ) → 2 ≤ length h → get_or h 1 0 ≡ FEND → stands_first h ≡ false
unfolding stands_first
stands_empty h l e = rw (get_d_any h 1 FEND 0 (omega arith), eq-eqb (get_or h 1 0) FEND e) (no_second _ _)

stands_further : (h : List ℕ) → 2 ≤ length h → get_or h 0 0 ≡ FEND → (get_or h 1 0 ≡ FEND → ⊥) → stands_first h ≡ ltb (run_of not_fend (drop 2 h)) (length (drop 2 h))
unfolding stands_first and
stands_further h l e f = rw (eq-eqb (get_or h 0 0) FEND e, get_d_any h 1 FEND 0 (omega arith), ne_eqb (get_or h 1 0) FEND f) (stretch_tested (drop 2 h))

pub stands_closed : (h : List ℕ) (n : ℕ) → 2 ≤ length h → get_or h 0 0 ≡ FEND → (get_or h 1 0 ≡ FEND → ⊥) → n ≡ run_of not_fend (take (length h - 2) (drop 2 h))
    → ltb n (length (take (length h - 2) (drop 2 h))) ≡ stands_first h
stands_closed h n l e f q = rw (q, to_the_end 2 h) (sym (stands_further h l e f))
