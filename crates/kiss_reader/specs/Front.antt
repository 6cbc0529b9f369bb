-- Whether a frame stands at the front of the bytes held, and its bytes, from document 01's "Bounds for 8" and "The reader's meaning". Assumes nothing.
use Rattle.std.specs.Prelude.{ℕ, Bool, List, [], length, drop, get_or, Option, None, Some}
use Rattle.std.proofs.Math.Option.{Option as Maybe, none, some}
use Rattle.choice.specs.Pick.{and}
use Rattle.kiss_layout.specs.Escape.{FEND}
use Rattle.kiss_layout.specs.Scan.{is_fend, not_fend, stretch}
use Rattle.kiss_reader.specs.Reader.{is_some}

-- a frame stands first: a FEND, another byte, and a FEND behind it
unfoldable pub stands_first : List ℕ → Bool
stands_first h = and (is_fend (get_or h 0 0)) (and (not_fend (get_or h 1 FEND)) (is_some (stretch (drop 2 h))))

-- the frame, and no byte where there is none
abbrev pub or_empty : Maybe (List ℕ) → List ℕ
or_empty none = []
or_empty (some f) = f

-- its length, where there is one
abbrev pub length_of : Maybe (List ℕ) → Option ℕ
length_of none = None
length_of (some f) = Some (length f)
