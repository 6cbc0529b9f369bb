-- The CRC over a list: from an index on, and of two lists joined. Assumes nothing.
use mathlib.Core.Path.{◌≡◌, refl, sym, ap, ◌∙◌}
use mathlib.Core.List.{List, [], ◌∷◌, ◌++◌}
use Prim.Native.Nat.{ℕ, zero, suc, ◌+◌, ◌*◌, ◌/◌, ◌<◌, ◌≤◌}
use native.Mathlib.Nat.{zero-add, add-zero}
use native.Mathlib.Numerals.{add-one}
use native.Mathlib.Omega.{arith}
use lib.ListN.{length, drop, get_or, drop_of_length-le}
use lib.Seq.{drop-cons, get_or-drop, get_or-take}
use Rattle.std.specs.Simd.{first_chunks}
use Rattle.crc.specs.Crc.{crc_byte, crc_from}
use Rattle.crc.proofs.Linear.{crc_byte-lt}

pub crc_from-lt : (r : ℕ) (bs : List ℕ) → r < 65536 → crc_from r bs < 65536
unfolding crc_from
crc_from-lt r [] h = h
crc_from-lt r (b ∷ bs) h = crc_from-lt (crc_byte r b) bs (crc_byte-lt r b)

pub crc_from-append : (r : ℕ) (xs ys : List ℕ) → crc_from r (xs ++ ys) ≡ crc_from (crc_from r xs) ys
unfolding crc_from
crc_from-append r [] ys = refl
crc_from-append r (x ∷ xs) ys = crc_from-append (crc_byte r x) xs ys

pub crc_at : (s : List ℕ) (r i : ℕ) → i < length s → crc_from r (drop i s) ≡ crc_from (crc_byte r (get_or s i 0)) (drop (i + 1) s)
unfolding crc_from
crc_at s r i h = rw (add-one, drop-cons s i 0)

pub crc_at_two : (s : List ℕ) (r i : ℕ) → i + 2 ≤ length s
    → crc_from r (drop i s) ≡ crc_from (crc_byte (crc_byte r (get_or s i 0)) (get_or s (i + 1) 0)) (drop (i + 2) s)
crc_at_two s r i h =
    let q = crc_byte r (get_or s i 0) in let two : i + 1 + 1 ≡ i + 2 = omega arith in
    crc_at s r i (omega arith) ∙ crc_at s q (i + 1) (omega arith) ∙ ap (λ (n : ℕ). crc_from (crc_byte q (get_or s (i + 1) 0)) (drop n s)) two

pub crc_done : (s : List ℕ) (r i : ℕ) → length s ≤ i → crc_from r (drop i s) ≡ r
unfolding crc_from
crc_done s r i h = rw (drop_of_length-le s h)

-- the pairs that a slice is read as
pair_at : (m : ℕ) (s : List ℕ) (i k : ℕ) → i < m → k < 2 → get_or (get_or (first_chunks 2 m s) i []) k 0 ≡ get_or s (i * 2 + k) 0
pair_at zero s i k h g = absurd (omega arith)
pair_at (suc m) s zero k h g = rw (zero-add k) (get_or-take 2 s k 0 g)
pair_at (suc m) s (suc i) k h g =
    let p : suc i * 2 + k ≡ 2 + (i * 2 + k) = omega arith in
    pair_at m (drop 2 s) i k (omega arith) g ∙ get_or-drop 2 s (i * 2 + k) 0 ∙ ap (λ (n : ℕ). get_or s n 0) (sym p)

module _ (s : List ℕ) {p : List (List ℕ)} (e : p ≡ first_chunks 2 (length s / 2) s) (i : ℕ) (h : i < length s / 2) where
  pub pair-first : get_or (get_or p i []) 0 0 ≡ get_or s (i * 2) 0
  pair-first = rw e (pair_at (length s / 2) s i 0 h (omega arith) ∙ rw add-zero)

  pub pair-second : get_or (get_or p i []) 1 0 ≡ get_or s (i * 2 + 1) 0
  pair-second = rw e (pair_at (length s / 2) s i 1 h (omega arith))

-- the byte behind the pairs
pub odd-byte : (s : List ℕ) {o : List ℕ} (n : ℕ) → o ≡ drop n s → get_or o 0 0 ≡ get_or s n 0
odd-byte s n e = rw e (get_or-drop n s 0 0 ∙ rw add-zero)
