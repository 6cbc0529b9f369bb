-- Sixteen bytes of a list, read, put and tested together. From no document. Assumes nothing.
use Rattle.std.specs.Prelude.{ℕ, ◌+◌, Bool, true, false, List, [], ◌∷◌, ◌++◌, eqb, leb, length, take, drop, replicate}
use Rattle.choice.specs.Pick.{pick}

-- the sixteen bytes of s from place at on; zeros where s has not as many there
unfoldable pub loaded : List ℕ → ℕ → List ℕ
loaded s at = pick (leb (at + 16) (length s)) (take 16 (drop at s)) (replicate 16 0)

-- the room d with the block t from place at on; d itself where t does not fit there
unfoldable pub stored : List ℕ → List ℕ → ℕ → List ℕ
stored t d at = pick (leb (at + length t) (length d)) (take at d ++ t ++ drop (at + length t) d) d

-- b stands nowhere in the list
unfoldable pub without : ℕ → List ℕ → Bool
without b [] = true
without b (x ∷ xs) = pick (eqb x b) false (without b xs)
