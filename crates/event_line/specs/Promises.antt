-- What is promised of lines, from document 01. Each is proved in proofs/Kept.antt. Assumes nothing.
use Rattle.std.specs.Prelude.{true, false, ◌≡◌, [], ◌∷◌}
use Rattle.event_line.specs.Line.{line_of}

-- document 01's lines, `01 0 0` and `08 1 1 0A`, and that of a kind that is not known, `0A 9 0`
pub record Lines : Type 0 where
  pub host : line_of 1 0 false [] ≡ 48 ∷ 49 ∷ 32 ∷ 48 ∷ 32 ∷ 48 ∷ 10 ∷ []
  pub preamble : line_of 8 1 true (10 ∷ []) ≡ 48 ∷ 56 ∷ 32 ∷ 49 ∷ 32 ∷ 49 ∷ 32 ∷ 48 ∷ 65 ∷ 10 ∷ []
  pub unknown : line_of 10 9 false [] ≡ 48 ∷ 65 ∷ 32 ∷ 57 ∷ 32 ∷ 48 ∷ 10 ∷ []
