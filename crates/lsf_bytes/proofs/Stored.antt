-- Bytes of a frame after code has written some of them. Assumes nothing.
use mathlib.Core.Path.{◌≡◌, sym, ap, ◌∙◌}
use mathlib.Core.List.{List, [], ◌∷◌, ◌++◌, append_assoc}
use Prim.Native.Nat.{ℕ, ◌+◌, ◌≤◌, ◌<◌, ◌/◌, ◌%◌}
use native.Mathlib.Omega.{arith}
use lib.ListN.{length, take, drop}
use lib.Seq.{take-append-add, drop-drop, length-take-le}
use Rattle.crc.specs.Crc.{two_bytes}
use Rattle.std.proofs.lemmas.Grind.{common_steps}

-- a number's two bytes, high byte first
pub high_first : (n : ℕ) → n < 65536 → (n / 256 % 256) ∷ (n % 256) ∷ [] ≡ two_bytes n
high_first n h = grind (arith, common_steps)

-- bytes put over the last k
pub put_last : (f e : List ℕ) (n k : ℕ) → length f ≤ n + k → take n f ++ (e ++ drop k (drop n f)) ≡ take n f ++ e
put_last f e n k h = grind (arith, common_steps)

take_past : (p q : List ℕ) (m n : ℕ) → length p ≡ n → take (n + m) (p ++ q) ≡ p ++ take m q
take_past p q m n e = rw (← e) (take-append-add p q m)

-- bytes put over k in the middle, and the m bytes after them
pub put_mid : (f e : List ℕ) (n k m : ℕ) → n ≤ length f → length e ≡ k → take (n + (k + m)) (take n f ++ (e ++ drop k (drop n f))) ≡ take n f ++ e ++ take m (drop (n + k) f)
put_mid f e n k m h l =
    take_past (take n f) _ (k + m) n (length-take-le n f h) ∙ ap (λ r. take n f ++ r) (take_past e _ m k l ∙ ap (λ r. e ++ take m r) (drop-drop k n f)) ∙ sym (append_assoc (take n f) e _)
