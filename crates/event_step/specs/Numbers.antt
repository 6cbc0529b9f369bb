-- Numbers in the bodies of events, from document 01's "Event program": high byte first. Assumes nothing.
use Rattle.std.specs.Prelude.{ℕ, ◌+◌, ◌*◌, ◌%◌, List, [], ◌∷◌, get_or}

-- the number in the four bytes from a place on, and in the eight
abbrev pub four_bytes : List ℕ → ℕ → ℕ
four_bytes b i = get_or b i 0 * 16777216 + get_or b (i + 1) 0 * 65536 + get_or b (i + 2) 0 * 256 + get_or b (i + 3) 0

abbrev pub eight_bytes : List ℕ → ℕ → ℕ
eight_bytes b i = four_bytes b i * 4294967296 + four_bytes b (i + 4)

-- a number with bytes behind it: before each byte it is cut to its low seven bytes
unfoldable pub behind : ℕ → List ℕ → ℕ
behind n [] = n
behind n (b ∷ bs) = behind (n % 72057594037927936 * 256 + b) bs

-- the number in all bytes; of more than eight the last eight count
abbrev pub number_of : List ℕ → ℕ
number_of b = behind 0 b
