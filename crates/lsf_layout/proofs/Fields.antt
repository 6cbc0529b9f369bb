-- A run of bits in a number is set: it is read there, and the bits below and above it stay. Assumes nothing.
use mathlib.Core.Path.{◌≡◌}
use Prim.Native.Nat.{ℕ, ◌+◌, ◌*◌, ◌/◌, ◌%◌, ◌^◌, ◌<◌}
use native.Mathlib.Nat.{mod-lt, mul_assoc, mul_comm, add-mul}
use lib.Pow.{pow_pos, pow-add, shr-shr, high, low}
use Rattle.lsf_layout.specs.Bits.{Field, bits_at, with_bits_at}

joined : (a v r l w : ℕ) → a * 2 ^ (l + w) + v * 2 ^ l + r ≡ (a * 2 ^ w + v) * 2 ^ l + r
joined a v r l w = rw (pow-add 2 l w, add-mul, mul_assoc, mul_comm (2 ^ w) (2 ^ l))

module _ (k : Field) (v x : ℕ) where
  low_bits : x % 2 ^ k.low < 2 ^ k.low
  low_bits = mod-lt x (pow_pos k.low)

  -- the number without the bits below the field
  from_field : with_bits_at k v x / 2 ^ k.low ≡ x / 2 ^ (k.low + k.width) * 2 ^ k.width + v
  unfolding with_bits_at
  from_field = rw (joined _ v (x % 2 ^ k.low) k.low k.width) (high _ k.low low_bits)

  pub bits_there : v < 2 ^ k.width → bits_at k (with_bits_at k v x) ≡ v
  unfolding bits_at
  bits_there h = rw from_field (low _ k.width h)

  pub bits_below : with_bits_at k v x % 2 ^ k.low ≡ x % 2 ^ k.low
  unfolding with_bits_at
  bits_below = rw (joined _ v (x % 2 ^ k.low) k.low k.width) (low _ k.low low_bits)

  pub bits_above : v < 2 ^ k.width → with_bits_at k v x / 2 ^ (k.low + k.width) ≡ x / 2 ^ (k.low + k.width)
  bits_above h = rw (← shr-shr (with_bits_at k v x) k.low k.width, from_field) (high _ k.width h)
