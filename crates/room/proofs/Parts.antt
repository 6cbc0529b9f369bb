-- A part of a `&mut` slice that was lent, said of the whole as a run of stores. Assumes nothing.
use mathlib.Core.Path.{◌≡◌, sym, ap, ◌∙◌}
use mathlib.Core.List.{List, ◌++◌, append_assoc}
use Prim.Native.Nat.{ℕ, ◌+◌, ◌≤◌}
use native.Mathlib.Omega.{arith}
use lib.ListN.{length, take, drop, length-take, length-drop, take-append-drop}
use lib.Seq.{sets, sets-eq, drop-append-le, drop-drop}
use borrow.Rule.Slice.PartMut.{mid_of, put_mid}
use Rattle.room.specs.Room.{over, placed}

-- the k elements from a on were lent, and a callee wrote v over their start: v is stored from a on
pub lent_over : (a k : ℕ) (d v : List ℕ) → a + k ≤ length d → length v ≤ k → put_mid a k d (over v (mid_of a k d)) ≡ sets d a v
lent_over a k d v h g =
    let m : length v ≤ length (take k (drop a d)) = simp (length-take, length-drop) (omega arith) in
    let w : a + length v ≤ length d = omega arith in
    rw (sets-eq v d a w, append_assoc v, append_assoc (take a d), ← drop-append-le (length v) (take k (drop a d)) (drop k (drop a d)) m, take-append-drop k (drop a d), drop-drop)

-- the k elements from a on were lent, and came back as v: v stands from a on
pub lent_placed : (a k : ℕ) (d v : List ℕ) → length v ≡ k → put_mid a k d v ≡ placed v d a
lent_placed a k d v e =
    ap (λ (m : ℕ). take a d ++ (v ++ drop m (drop a d))) (sym e)
    ∙ ap (λ (l : List ℕ). take a d ++ (v ++ l)) (drop-drop (length v) a d)
    ∙ sym (append_assoc (take a d) v (drop (a + length v) d))
