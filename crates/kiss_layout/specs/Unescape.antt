-- What unescaping gives and what it leaves in the room, from document 01 under "KISS bytes": it stops when the content or the room ends, what does not fit is
-- cut off without notice, a FESC as last byte gives nothing, and FESC before another byte uses up both, leaves the room's byte as found there and counts it.
-- Callers go by the laws of proofs/Unescaped.antt and not by this text, since later requests change it. Assumes nothing.
use Rattle.std.specs.Prelude.{ℕ, min, List, [], ◌∷◌, eqb, length}
use Rattle.choice.specs.Pick.{pick}
use Rattle.kiss_layout.specs.Escape.{FEND, FESC, TFEND, TFESC}

-- what a place of the room is given: a byte, or what was found there
pub data Code : Type 0 where
  byte : ℕ → Code
  as_found : Code

-- what FESC before b stands for
unfoldable pub after_fesc : ℕ → Code
after_fesc b = pick (eqb b TFEND) (byte FEND) (pick (eqb b TFESC) (byte FESC) as_found)

-- the codes of a content
unfoldable pub codes : List ℕ → List Code
codes [] = []
codes (b ∷ []) = pick (eqb b FESC) [] (byte b ∷ [])
codes (b ∷ e ∷ s) = pick (eqb b FESC) (after_fesc e ∷ codes s) (byte b ∷ codes (e ∷ s))

-- a code at a place where r was found
abbrev pub laid : Code → ℕ → ℕ
laid (byte b) r = b
laid as_found r = r

-- codes laid over the start of a room: what does not fit is cut off, and what lies beyond them stays
unfoldable pub lay : List Code → List ℕ → List ℕ
lay [] d = d
lay (c ∷ cs) [] = []
lay (c ∷ cs) (r ∷ d) = laid c r ∷ lay cs d

-- how many bytes of the room unescaping counts, and the room after it
unfoldable pub unescaped : List ℕ → List ℕ → ℕ × List ℕ
unescaped s d = (min (length (codes s)) (length d), lay (codes s) d)
