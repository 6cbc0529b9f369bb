-- The bytes of a stored frame. Assumes nothing.
use mathlib.Core.Path.{◌≡◌, refl}
use mathlib.Core.Bool.{Bool, true, false}
use mathlib.Core.List.{[], ◌∷◌}
use Prim.Native.Nat.{ℕ, ◌/◌, ◌%◌, ◌<◌}
use native.Mathlib.Omega.{arith}
use mir.Val.{bool_byte}
use Rattle.crc.specs.Crc.{two_bytes}
use Rattle.streams.specs.Layout.{end_byte}
use Rattle.std.proofs.lemmas.Grind.{common_steps}

-- a number's two bytes, high byte first
pub high_first : (n : ℕ) → n < 65536 → (n / 256 % 256) ∷ (n % 256) ∷ [] ≡ two_bytes n
high_first n h = grind (arith, common_steps)

-- a bool is 1 or 0 as a number
pub end_is : (b : Bool) → bool_byte b ≡ end_byte b
end_is true = refl
end_is false = refl
