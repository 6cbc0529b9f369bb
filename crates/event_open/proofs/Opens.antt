-- The tests on the way to a run, and what an open frame is. Assumes nothing.
use Prim.Native.Nat.{ℕ, suc, ◌≤◌}
use mathlib.Core.Bool.{Bool, true, false, not, false≢true}
use mathlib.Core.Path.{◌≡◌, refl, ap, ◌∙◌}
use mathlib.Core.Option.{none, map}
use mathlib.Core.List.{List, [], ◌∷◌, ◌++◌}
use native.Mathlib.Omega.{arith}
use borrow.Author.Tests.{eq-eqb, ne_eqb, eqb-true}
use lib.Dec.{eqb}
use lib.ListN.{length}
use Rattle.choice.specs.Pick.{pick, and_fst, and_snd, and_both, and_no, and_go}
use Rattle.kiss_layout.specs.Escape.{FEND}
use Rattle.kiss_layout.specs.Scan.{is_fend, not_fend, after_fends, run_of}
use Rattle.kiss_layout.proofs.Scans.{stretch-none}
use Rattle.kiss_reader.specs.Meaning.{enclosed}
use Rattle.kiss_reader.specs.Reader.{from_fend, settle, front}
use Rattle.tnc_core.specs.declared.Tnc.{Tnc}
use Rattle.tnc_core.specs.Tnc.{sound_tnc}
use Rattle.tnc_core.proofs.Bounds.{parts}
use Rattle.link_ready.specs.Ready.{link_fits}
use Rattle.link_ready.proofs.Stores.{reader_fits}
use Rattle.event_open.specs.Inside.{opened}

-- ---- the code's tests

pub none_held : (h : List ℕ) → length h ≡ 0 → false ≡ opened h
unfolding opened
none_held [] e = refl
none_held (b ∷ h) e = absurd (omega arith)

pub other_held : (h r : List ℕ) (b : ℕ) → h ≡ b ∷ r → (b ≡ FEND → ⊥) → eqb b FEND ≡ opened h
unfolding opened
other_held h r b e f = let no = ne_eqb b FEND f in rw e (no ∙ and_no _ no)

pub fend_held : (h r : List ℕ) (b m : ℕ) → h ≡ b ∷ r → b ≡ FEND → m ≡ run_of not_fend r → eqb m (length r) ≡ opened h
unfolding opened
fend_held h r b m e f q = rw e (and_go (eq-eqb b FEND f) (ap (λ (n : ℕ). eqb n (length r)) q))

-- the bytes that count stand in the store
pub held_within : (t : Tnc) (p q : ℕ) (reader : List ℕ) → link_fits (length reader) p q ≡ true → sound_tnc t ≡ true → t.buffer.filled ≤ length reader
held_within t p q reader e f = omega (arith, reader_fits (length reader) p q e, (parts t f).its_filled)

-- ---- an open frame is settled, and no whole frame

run_all : (h : List ℕ) (b : ℕ) → run_of not_fend h ≡ length h → not_fend b ≡ true → run_of not_fend (h ++ b ∷ []) ≡ length (h ++ b ∷ [])
unfolding run_of pick
run_all [] b e f = rw f
run_all (x ∷ h) b e f = by (not_fend x) (λ q. run_all h b q f) e
  where
    by : (t : Bool) → (run_of not_fend h ≡ length h → run_of not_fend (h ++ b ∷ []) ≡ length (h ++ b ∷ []))
        → pick t (suc (run_of not_fend h)) 0 ≡ suc (length h) → pick t (suc (run_of not_fend (h ++ b ∷ []))) 0 ≡ suc (length (h ++ b ∷ []))
    by true ih q = ap suc (ih (omega arith))
    by false ih q = absurd (omega arith)

pub open_more : (h : List ℕ) (b : ℕ) → opened h ≡ true → not_fend b ≡ true → opened (h ++ b ∷ []) ≡ true
unfolding opened
open_more [] b e f = absurd (false≢true e)
open_more (x ∷ h) b e f = and_both (and_fst _ _ e) (eq-eqb _ _ (run_all h b (eqb-true _ _ (and_snd _ _ e)) f))

fends_none : (h : List ℕ) → run_of not_fend h ≡ length h → after_fends h ≡ h
unfolding after_fends run_of pick
fends_none [] e = refl
fends_none (x ∷ h) e = by (is_fend x) e
  where
    by : (t : Bool) → pick (not t) (suc (run_of not_fend h)) 0 ≡ suc (length h) → pick t (after_fends h) (x ∷ h) ≡ x ∷ h
    by true q = absurd (omega arith)
    by false q = refl

pub open_settled : (h : List ℕ) → opened h ≡ true → settle h ≡ h
unfolding opened settle from_fend pick
open_settled [] e = refl
open_settled (b ∷ h) e = rw (and_fst _ _ e) (ap (λ (t : List ℕ). b ∷ t) (fends_none h (eqb-true _ _ (and_snd _ _ e))))

pub open_quiet : (h : List ℕ) → opened h ≡ true → front h ≡ none
unfolding opened front
open_quiet [] e = absurd (false≢true e)
open_quiet (b ∷ h) e = let all : run_of not_fend h ≡ length h = eqb-true _ _ (and_snd _ _ e) in ap (map enclosed) (stretch-none h (omega arith))
