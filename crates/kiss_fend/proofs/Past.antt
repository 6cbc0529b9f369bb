-- The scans for FEND as what `take_while` gives, and the blocks of sixteen bytes without FEND that one of them passes. Assumes nothing.
use mathlib.Core.Path.{◌≡◌, refl, sym, ap, ◌∙◌}
use mathlib.Core.Bool.{Bool, true, false, cond}
use mathlib.Core.List.{List, [], ◌∷◌, ◌++◌}
use Prim.Native.Nat.{ℕ, zero, suc, ◌+◌, ◌*◌, ◌≤◌}
use native.Mathlib.Nat.{zero-add}
use native.Mathlib.Omega.{arith}
use lib.ListN.{length, take, drop, length-drop, take-append-drop}
use lib.Seq.{drop-drop, length-take-le}
use Rattle.std.specs.List.{prefix_len, take_while}
use Rattle.std.specs.Simd.{first_chunks}
use Rattle.std.proofs.lemmas.List.Folds.{length-prefix_len}
use Rattle.choice.specs.Pick.{pick}
use Rattle.blocks.specs.Block.{without}
use Rattle.blocks.proofs.Blocks.{without_first, without_rest}
use Rattle.kiss_layout.specs.Escape.{FEND}
use Rattle.kiss_layout.specs.Scan.{not_fend, run_of}
use Rattle.kiss_layout.proofs.Scans.{not_is}

run-prefix : (p : ℕ → Bool) (s : List ℕ) → prefix_len p s ≡ run_of p s
unfolding run_of pick
run-prefix p [] = refl
run-prefix p (b ∷ s) = by (p b) (run-prefix p s)
  where
    by : (t : Bool) → prefix_len p s ≡ run_of p s → cond t (1 + prefix_len p s) 0 ≡ pick t (suc (run_of p s)) 0
    by true h = omega (arith, h)
    by false h = refl

pub run-while : (p : ℕ → Bool) (s : List ℕ) → length (take_while p s) ≡ run_of p s
run-while p s = length-prefix_len p s ∙ run-prefix p s

run_past : (t s : List ℕ) → without FEND t ≡ true → run_of not_fend (t ++ s) ≡ length t + run_of not_fend s
unfolding run_of pick
run_past [] s h = sym (zero-add (run_of not_fend s))
run_past (b ∷ t) s h = rw (not_is b (without_first FEND b t h)) (omega (arith, run_past t s (without_rest FEND b t h)))

run-block : (s : List ℕ) → 16 ≤ length s → without FEND (take 16 s) ≡ true → run_of not_fend s ≡ 16 + run_of not_fend (drop 16 s)
run-block s h f =
    ap (run_of not_fend) (sym (take-append-drop 16 s))
    ∙ run_past (take 16 s) (drop 16 s) f
    ∙ ap (λ (n : ℕ). n + run_of not_fend (drop 16 s)) (length-take-le 16 s h)

-- how many of the first m blocks of s are clear, up to the first that is not
abbrev pub clear : ℕ → List ℕ → ℕ
clear m s = prefix_len (without FEND) (first_chunks 16 m s)

pub run-blocks : (m : ℕ) (s : List ℕ) → m * 16 ≤ length s → 16 * clear m s + run_of not_fend (drop (16 * clear m s) s) ≡ run_of not_fend s
run-blocks zero s h = zero-add (run_of not_fend s)
run-blocks (suc m) s h = by (without FEND (take 16 s)) refl (run-blocks m (drop 16 s) (omega (arith, length-drop 16 s)))
  where
    k : ℕ
    k = clear m (drop 16 s)

    by : (t : Bool) → without FEND (take 16 s) ≡ t → 16 * k + run_of not_fend (drop (16 * k) (drop 16 s)) ≡ run_of not_fend (drop 16 s)
        → 16 * cond t (1 + k) 0 + run_of not_fend (drop (16 * cond t (1 + k) 0) s) ≡ run_of not_fend s
    by true f ih =
        let p : 16 * (1 + k) ≡ 16 + 16 * k = omega arith in
        rw (p, ← drop-drop (16 * k) 16 s) (omega (arith, ih, run-block s (omega arith) f))
    by false f ih = zero-add (run_of not_fend s)
