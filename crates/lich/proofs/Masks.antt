-- The mask of heard segments: laws that are tested at every mask below 64 and every index below 6. Assumes nothing.
use mathlib.Core.Path.{◌≡◌}
use Prim.Native.Nat.{ℕ, suc, ◌*◌, ◌/◌, ◌%◌, ◌^◌, ◌<◌}
use native.Mathlib.Omega.{arith}
use lib.Bits.{bit_or}
use lib.Count.{ones_in, ones}
use lib.Dec.{T, eqb, eqb→eq}
use Rattle.choice.specs.Pick.{pick, and}
use Rattle.choice.proofs.Table.{each, below, below_two}
use Rattle.lsf_layout.specs.Bits.{bits_at, with_bits_at}
use Rattle.lich.specs.Lich.{segment_bit, heard, heard_count}

-- the mask with segment i heard
abbrev pub with_heard : ℕ → ℕ → ℕ
with_heard i m = with_bits_at (segment_bit i) 1 m

same : (f g : ℕ → ℕ) → T (each (λ (m : ℕ). eqb (f m) (g m)) 0 64) → (m : ℕ) → m < 64 → f m ≡ g m
same f g t m h = eqb→eq (f m) (g m) (below (λ (k : ℕ). eqb (f k) (g k)) 64 t m h)

same_at : (f g : ℕ → ℕ → ℕ) → T (each (λ (m : ℕ). each (λ (i : ℕ). eqb (f m i) (g m i)) 0 6) 0 64) → (m i : ℕ) → m < 64 → i < 6 → f m i ≡ g m i
same_at f g t m i h k = eqb→eq (f m i) (g m i) (below_two (λ (m i : ℕ). eqb (f m i) (g m i)) 64 6 t m i h k)

same_at_two : (f g : ℕ → ℕ → ℕ → ℕ) → T (each (λ (m : ℕ). each (λ (i : ℕ). each (λ (j : ℕ). eqb (f m i j) (g m i j)) 0 6) 0 6) 0 64)
    → (m i j : ℕ) → m < 64 → i < 6 → j < 6 → f m i j ≡ g m i j
same_at_two f g t m i j h k l =
    let u = below_two (λ (m i : ℕ). each (λ (j : ℕ). eqb (f m i j) (g m i j)) 0 6) 64 6 t m i h k in
    eqb→eq (f m i j) (g m i j) (below (λ (j : ℕ). eqb (f m i j) (g m i j)) 6 u j l)

-- ---- what the code computes

pub ones_is : (m : ℕ) → m < 64 → ones m ≡ heard_count m
unfolding and ones ones_in heard_count bits_at
ones_is = same ones heard_count tt

pub or_is : (m i : ℕ) → m < 64 → i < 6 → bit_or m (1 * 2 ^ i % 256) ≡ with_heard i m
unfolding and with_bits_at
or_is = same_at (λ (m i : ℕ). bit_or m (1 * 2 ^ i % 256)) (λ (m i : ℕ). with_heard i m) tt

-- ---- one segment more

pub stays_small : (m i : ℕ) → m < 64 → i < 6 → with_heard i m < 64
unfolding and with_bits_at
stays_small m i h k = omega (arith, same_at (λ (m i : ℕ). with_heard i m / 64) (λ (m i : ℕ). 0) tt m i h k)

pub then_heard : (m i j : ℕ) → m < 64 → i < 6 → j < 6 → heard i (with_heard j m) ≡ pick (eqb i j) 1 (heard i m)
unfolding and pick bits_at with_bits_at
then_heard = same_at_two (λ (m i j : ℕ). heard i (with_heard j m)) (λ (m i j : ℕ). pick (eqb i j) 1 (heard i m)) tt

pub order_free : (m i j : ℕ) → m < 64 → i < 6 → j < 6 → with_heard i (with_heard j m) ≡ with_heard j (with_heard i m)
unfolding and with_bits_at
order_free = same_at_two (λ (m i j : ℕ). with_heard i (with_heard j m)) (λ (m i j : ℕ). with_heard j (with_heard i m)) tt

pub one_more : (m i : ℕ) → m < 64 → i < 6 → heard_count (with_heard i m) ≡ pick (eqb (heard i m) 1) (heard_count m) (suc (heard_count m))
unfolding and pick heard_count bits_at with_bits_at
one_more = same_at (λ (m i : ℕ). heard_count (with_heard i m)) (λ (m i : ℕ). pick (eqb (heard i m) 1) (heard_count m) (suc (heard_count m))) tt
