-- Where a line ends, and what is printed where the input ends, from document 01's "Event program" and its answer 9. Assumes nothing.
use Rattle.std.specs.Prelude.{ℕ, Bool, List, [], ◌∷◌, Result, Ok, Err}
use Rattle.event_line.specs.declared.LineError.{LineError}
use Rattle.event_line.specs.Line.{written}

-- the place behind a line that was to be written at a place
abbrev pub place_after : Result ℕ LineError → ℕ → ℕ
place_after (Ok n) at = n
place_after (Err e) at = at

-- the answer of `last_line`, and the room after it: where the line has no room nothing is written
unfoldable pub last_line : List ℕ → Bool → List ℕ → ℕ × List ℕ
last_line [] on d = (0, d)
last_line (k ∷ s) on d = (place_after (written k 9 on [] d 0).0 0, (written k 9 on [] d 0).1)
