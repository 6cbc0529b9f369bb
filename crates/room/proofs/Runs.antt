-- Runs of stores, `sets d j xs`: one store or two and the rest after them, from the start on, and two runs in a row. Assumes nothing.
use mathlib.Core.Path.{◌≡◌, ◌∙◌}
use mathlib.Core.List.{List, [], ◌∷◌, ◌++◌, append-nil}
use Prim.Native.Nat.{ℕ, suc, ◌+◌, ◌≤◌}
use native.Mathlib.Nat.{add-zero, add-suc, suc-add}
use native.Mathlib.Numerals.{add-one}
use native.Mathlib.Omega.{arith}
use lib.ListN.{length, set, drop_of_length-le}
use lib.Seq.{sets, sets-eq}
use Rattle.room.specs.Room.{over}

pub put_one : (d : List ℕ) (j : ℕ) {a : ℕ} {e t r : List ℕ} → e ≡ a ∷ t → sets d j e ≡ r → sets (set d j a) (j + 1) t ≡ r
put_one d j q h = rw add-one (rw q at h)

pub put_two : (d : List ℕ) (j : ℕ) {a b : ℕ} {e t r : List ℕ} → e ≡ a ∷ b ∷ t → sets d j e ≡ r → sets (set (set d j a) (j + 1) b) (j + 2) t ≡ r
put_two d j q h = let p : j + 2 ≡ suc (suc j) = omega arith in rw (p, add-one) (rw q at h)

pub put_front : (d e : List ℕ) → length e ≤ length d → sets d 0 e ≡ over e d
put_front d e h = let p : 0 + length e ≡ length e = omega arith in rw (sets-eq e d 0 (rw p h), p)

-- stores that fill the whole
pub put_all : (d e : List ℕ) → length e ≡ length d → sets d 0 e ≡ e
put_all d e h =
    let p : length d ≤ length e = omega arith in
    put_front d e (omega arith) ∙ rw (drop_of_length-le d p, append-nil)

pub sets_append : (d : List ℕ) (i : ℕ) (xs ys : List ℕ) → sets d i (xs ++ ys) ≡ sets (sets d i xs) (i + length xs) ys
sets_append d i [] ys = rw add-zero
sets_append d i (x ∷ xs) ys = rw (add-suc, ← suc-add) (sets_append _ (suc i) xs ys)
