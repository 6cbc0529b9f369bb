-- Laws of numbers in bytes: four bytes and eight are read as their definitions say. Assumes nothing.
use Prim.Native.Nat.{ℕ, ◌+◌, ◌*◌, ◌%◌, ◌<◌, ◌≤◌}
use mathlib.Core.Path.{◌≡◌, ap, ◌∙◌}
use mathlib.Core.List.{List}
use mir.Syntax.{w8}
use mir.Val.{Fits}
use native.Mathlib.Numerals.{add-one}
use native.Mathlib.Omega.{arith}
use lib.ListN.{length, get_or, drop, drop_of_length-le}
use lib.Seq.{drop-cons}
use Rattle.event_step.specs.Numbers.{four_bytes, eight_bytes, behind, number_of}

pub behind-at : (s : List ℕ) (n i : ℕ) → i < length s → behind n (drop i s) ≡ behind (n % 72057594037927936 * 256 + get_or s i 0) (drop (i + 1) s)
unfolding behind
behind-at s n i h = rw (add-one, drop-cons s i 0)

pub behind-done : (s : List ℕ) (n i : ℕ) → length s ≤ i → behind n (drop i s) ≡ n
unfolding behind
behind-done s n i h = rw (drop_of_length-le s h)

-- a number below 2^56 stays whole
grows : (s : List ℕ) (n i : ℕ) → i < length s → n < 72057594037927936 → behind n (drop i s) ≡ behind (n * 256 + get_or s i 0) (drop (i + 1) s)
grows s n i h small =
    let e : n % 72057594037927936 ≡ n = omega arith in behind-at s n i h ∙ ap (λ (m : ℕ). behind (m * 256 + get_or s i 0) (drop (i + 1) s)) e

pub number_of_four : (s : List ℕ) → length s ≡ 4 → ((i : ℕ) → Fits w8 (get_or s i 0)) → number_of s ≡ four_bytes s 0
number_of_four s h f =
    let b0 = (f 0).fits in let b1 = (f 1).fits in let b2 = (f 2).fits in
    grows s _ 0 (omega arith) (omega arith)
    ∙ grows s _ 1 (omega arith) (omega arith)
    ∙ grows s _ 2 (omega arith) (omega arith)
    ∙ grows s _ 3 (omega arith) (omega arith)
    ∙ behind-done s _ 4 (omega arith)
    ∙ omega arith

pub number_of_eight : (s : List ℕ) → length s ≡ 8 → ((i : ℕ) → Fits w8 (get_or s i 0)) → number_of s ≡ eight_bytes s 0
number_of_eight s h f =
    let b0 = (f 0).fits in let b1 = (f 1).fits in let b2 = (f 2).fits in let b3 = (f 3).fits in let b4 = (f 4).fits in let b5 = (f 5).fits in let b6 = (f 6).fits in
    grows s _ 0 (omega arith) (omega arith)
    ∙ grows s _ 1 (omega arith) (omega arith)
    ∙ grows s _ 2 (omega arith) (omega arith)
    ∙ grows s _ 3 (omega arith) (omega arith)
    ∙ grows s _ 4 (omega arith) (omega arith)
    ∙ grows s _ 5 (omega arith) (omega arith)
    ∙ grows s _ 6 (omega arith) (omega arith)
    ∙ grows s _ 7 (omega arith) (omega arith)
    ∙ behind-done s _ 8 (omega arith)
    ∙ omega arith
