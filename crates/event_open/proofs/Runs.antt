-- One event of a run, and where a run ends. Assumes nothing.
use Prim.Native.Nat.{ℕ, zero, suc, ◌+◌, ◌-◌, ◌*◌, ◌/◌, ◌≤◌, ◌<◌}
use mathlib.Core.Bool.{Bool, true, false, ◌&&◌}
use mathlib.Core.Path.{◌≡◌, refl, sym, ap, ◌∙◌, subst}
use mathlib.Core.List.{List, [], ◌∷◌}
use native.Mathlib.Numerals.{add-one}
use native.Mathlib.Omega.{arith}
use borrow.Author.Tests.{leb-true, ltb-true}
use lib.Dec.{leb, ltb, eqb}
use lib.ListN.{length, take, drop, get_or, set, length-drop}
use lib.Seq.{sets, length-sets, drop-cons, drop-drop}
use Rattle.std.specs.Simd.{first_chunks}
use Rattle.std.proofs.lemmas.List.{take_rest, get_or-take, get_or-drop}
use Rattle.choice.specs.Pick.{pick, pick_all, and, pick_yes, pick_no, and_fst, and_snd}
use Rattle.kiss_layout.specs.Scan.{not_fend}
use Rattle.event_input.specs.Events.{HOST}
use Rattle.std.specs.Prelude.{Result, Ok, ℕ}
use Rattle.event_line.specs.declared.LineError.{LineError}
use Rattle.event_line.specs.Line.{line_of, written}
use Rattle.event_line.proofs.Lines.{line_none_long, written-yes}
use Rattle.event_answer.specs.declared.EventBox.{EventBox}
use Rattle.event_answer.specs.declared.Taken.{Taken}
use Rattle.event_open.specs.declared.Run.{Run}
use Rattle.event_answer.specs.Answer.{LINE}
use Rattle.event_open.specs.Inside.{is_open, begins, keeps, ended, kept_run, filled_to, stays, ran_to, open_run}
use Rattle.event_open.proofs.Opens.{held_within}

-- fewer than two bytes are no event of kind 01
pub run_short : (s : List ℕ) (u : ℕ) (d : List ℕ) (n : ℕ) (r : List ℕ) (f : ℕ) (on : Bool) → length s < 2 → ended u d n r f ≡ kept_run s u d n r f on
unfolding kept_run
run_short [] u d n r f on h = refl
run_short (k ∷ []) u d n r f on h = refl
run_short (k ∷ b ∷ s) u d n r f on h = absurd (omega arith)

-- ---- two bytes at a time

chunk_at : (m k : ℕ) (s : List ℕ) → k < m → get_or (first_chunks 2 m s) k [] ≡ take 2 (drop (k * 2) s)
chunk_at zero k s h = absurd (omega arith)
chunk_at (suc m) zero s h = refl
chunk_at (suc m) (suc k) s h =
    let next : 2 + k * 2 ≡ suc k * 2 = omega arith in
    chunk_at m k (drop 2 s) (omega arith) ∙ ap (take 2) (drop-drop (k * 2) 2 s ∙ ap (λ (n : ℕ). drop n s) next)

-- the k-th two bytes of s from index at on
module _ (s : List ℕ) (at k i : ℕ) {es : List (List ℕ)} (e : es ≡ first_chunks 2 (length (take (length s - at) (drop at s)) / 2) (take (length s - at) (drop at s)))
    (h : k < length (take (length s - at) (drop at s)) / 2) (q : i ≡ at + k * 2) where
  event_is : get_or es k [] ≡ take 2 (drop i s)
  event_is =
      ap (λ (l : List (List ℕ)). get_or l k []) e
      ∙ chunk_at _ k (take (length s - at) (drop at s)) h
      ∙ ap (λ (l : List ℕ). take 2 (drop (k * 2) l)) (take_rest s at)
      ∙ ap (take 2) (drop-drop (k * 2) at s ∙ ap (λ (n : ℕ). drop n s) (sym q))

  pub event_fits : i + 2 ≤ length s
  event_fits = omega (arith, ap length (take_rest s at), length-drop at s)

  pub event_kind : get_or (get_or es k []) 0 0 ≡ get_or s i 0
  event_kind =
      let z : i + 0 ≡ i = omega arith in
      ap (λ (l : List ℕ). get_or l 0 0) event_is ∙ get_or-take 2 (drop i s) 0 0 (omega arith) ∙ get_or-drop i s 0 0 ∙ ap (λ (n : ℕ). get_or s n 0) z

  pub event_byte : get_or (get_or es k []) 1 0 ≡ get_or s (i + 1) 0
  event_byte = ap (λ (l : List ℕ). get_or l 1 0) event_is ∙ get_or-take 2 (drop i s) 1 0 (omega arith) ∙ get_or-drop i s 1 0

-- the event at index i of s
module _ (s : List ℕ) (i : ℕ) (h : i + 2 ≤ length s) (d : List ℕ) (n : ℕ) (r : List ℕ) (f : ℕ) (on : Bool) {k b : ℕ} (ek : k ≡ get_or s i 0) (eb : b ≡ get_or s (i + 1) 0) where
  two : drop i s ≡ k ∷ b ∷ drop (i + 2) s
  two =
      let p : i + 2 ≡ suc (suc i) = omega arith in
      rw (ek, eb, p, add-one i, drop-cons s i 0 (omega arith), drop-cons s (suc i) 0 (omega arith))

  pub run_stops : keeps k b (length d - n) (length r - f) ≡ false → ended i d n r f ≡ kept_run (drop i s) i d n r f on
  unfolding kept_run pick
  run_stops e = rw (two, e)

  pub run-keeps : keeps k b (length d - n) (length r - f) ≡ true
      → kept_run (drop (i + 2) s) (i + 2) (sets d n (line_of HOST 0 on [])) (n + 7) (set r f b) (f + 1) on ≡ kept_run (drop i s) i d n r f on
  unfolding kept_run pick
  run-keeps e = rw (two, e)

-- the test of an event as the code makes it
pub as_kept : (k b room place : ℕ) → (((eqb k HOST && not_fend b) && leb LINE room) && ltb 0 place) ≡ keeps k b room place
unfolding keeps and
as_kept k b room place = by (eqb k HOST) (not_fend b) (leb LINE room)
  where
    by : (x y z : Bool) → (((x && y) && z) && ltb 0 place) ≡ and x (and y (and z (ltb 0 place)))
    by true true true = refl
    by true true false = refl
    by true false z = refl
    by false y z = refl

-- where an event is kept there is room for its line, and place for its byte
pub kept_room : (k b room place : ℕ) → keeps k b room place ≡ true → (LINE ≤ room) × (1 ≤ place)
unfolding keeps
kept_room k b room place e = let f = and_snd _ _ (and_snd _ _ e) in (leb-true _ _ (and_fst _ _ f), ltb-true _ _ (and_snd _ _ f))

-- the line that was put, and its answer
pub line_put : (on : Bool) (d x : List ℕ) (n : ℕ) {l : (Result ℕ LineError)} → n + 7 ≤ length d → (l, x) ≡ written HOST 0 on [] d n → x ≡ sets d n (line_of HOST 0 on [])
line_put on d x n h e =
    ap (λ (t : Result ℕ LineError × List ℕ). t.1) (e ∙ sym (written-yes HOST 0 on [] d n (omega arith) (omega (arith, line_none_long HOST 0 on [] refl))))

pub line_ends : (on : Bool) (d x : List ℕ) (n : ℕ) {l : (Result ℕ LineError)} → n + 7 ≤ length d → (l, x) ≡ written HOST 0 on [] d n → l ≡ Ok (n + 7)
line_ends on d x n h e =
    ap (λ (t : Result ℕ LineError × List ℕ). t.0) (e ∙ sym (written-yes HOST 0 on [] d n (omega arith) (omega (arith, line_none_long HOST 0 on [] refl))))
    ∙ ap (λ (m : ℕ). Ok (n + m)) (line_none_long HOST 0 on [] refl)

-- ---- the answer of `take_open`

module _ (x : EventBox) (s : List ℕ) (at : ℕ) (d : List ℕ) (n : ℕ) (r : List ℕ) (p q : ℕ) where
  abbrev may : Bool
  may = and (begins s at) (and (leb n (length d)) (is_open x.tnc x.channel r p q))

  pub run_no : may ≡ false → (stays x at n, d, r) ≡ open_run x s at d n r p q
  unfolding open_run
  run_no f = pick_no _ f refl

  pub run-yes : {k : Run} {e g : List ℕ} → (k, e, g) ≡ kept_run (drop at s) at d n r x.tnc.buffer.filled x.tnc.ptt
      → may ≡ true → (record { used = k.used; wrote = k.wrote; after = filled_to x k.filled }, e, g) ≡ open_run x s at d n r p q
  unfolding open_run
  run-yes f c = pick_yes _ c (ap (ran_to x) f)

  pub within : may ≡ true → (at ≤ length s) × (n ≤ length d) × (x.tnc.buffer.filled ≤ length r)
  unfolding begins is_open
  within e =
      let h : at < length s = ltb-true at (length s) (and_fst _ _ (and_fst _ _ e)) in
      let o = and_snd _ _ (and_snd _ _ e) in
      (omega arith, leb-true _ _ (and_fst _ _ (and_snd _ _ e)), held_within x.tnc p q r (and_fst _ _ o) (and_fst _ _ (and_snd _ _ o)))

-- ---- how far a run goes

pub run_bounds : (s : List ℕ) (u : ℕ) (d : List ℕ) (n : ℕ) (r : List ℕ) (f : ℕ) (on : Bool) → n ≤ length d
    → let k = kept_run s u d n r f on in (u ≤ k.0.used) × (k.0.used ≤ u + length s) × (k.0.wrote ≤ length d)
unfolding kept_run
run_bounds [] u d n r f on h = (omega arith, omega arith, h)
run_bounds (k ∷ []) u d n r f on h = (omega arith, omega arith, h)
run_bounds (k ∷ b ∷ s) u d n r f on h =
    pick_all (λ (t : Run × List ℕ × List ℕ). (u ≤ t.0.used) × (t.0.used ≤ u + length (k ∷ b ∷ s)) × (t.0.wrote ≤ length d)) _ _ _
    (λ e.
    let room = kept_room k b (length d - n) (length r - f) e in
    let l = length-sets d n (line_of HOST 0 on []) in
    let i = run_bounds s (u + 2) (sets d n (line_of HOST 0 on [])) (n + 7) (set r f b) (f + 1) on (omega (arith, room, l)) in
    (omega (arith, i), omega (arith, i), omega (arith, i, l)))
    (λ e. (omega arith, omega arith, h))

pub open_bounds : (x : EventBox) (s : List ℕ) (at : ℕ) (d : List ℕ) (n : ℕ) (r : List ℕ) (p q : ℕ) → at ≤ length s → n ≤ length d
    → {y : Taken} {e g : List ℕ} → (y, e, g) ≡ open_run x s at d n r p q → (at ≤ y.used) × (y.used ≤ length s) × (y.wrote ≤ length d)
unfolding open_run
open_bounds x s at d n r p q h k {y} {e} {g} f =
    subst (λ (t : Taken × List ℕ × List ℕ). (at ≤ t.0.used) × (t.0.used ≤ length s) × (t.0.wrote ≤ length d)) (sym f)
    (pick_all (λ (t : Taken × List ℕ × List ℕ). (at ≤ t.0.used) × (t.0.used ≤ length s) × (t.0.wrote ≤ length d)) _ _ _
    (λ c.
    let b = run_bounds (drop at s) at d n r x.tnc.buffer.filled x.tnc.ptt k in
    (omega (arith, b), omega (arith, b, length-drop at s), omega (arith, b)))
    (λ c. (omega arith, omega arith, k)))
