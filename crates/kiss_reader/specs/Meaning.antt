-- The reader's meaning, from document 01 under "The reader's meaning": the frames that an input of bytes holds. Assumes nothing.
use Rattle.std.specs.Prelude.{ℕ, List, [], ◌∷◌, ◌++◌, leb, length}
use Rattle.std.proofs.Math.Option.{Option, none, some}
use Rattle.choice.specs.Pick.{pick, and}
use Rattle.kiss_layout.specs.Escape.{FEND}
use Rattle.kiss_layout.specs.Scan.{is_fend, stretch}

-- a frame is a stretch between two FENDs
abbrev pub enclosed : List ℕ → List ℕ
enclosed s = FEND ∷ (s ++ FEND ∷ [])

-- the longest stretch that becomes a frame
abbrev pub LONGEST : ℕ
LONGEST = 1711

-- empty stretches vanish, 1 to 1,711 bytes become a frame, 1,712 or more vanish
unfoldable pub kept : List ℕ → List (List ℕ)
kept s = pick (and (leb 1 (length s)) (leb (length s) LONGEST)) (enclosed s ∷ []) []

-- the frame that a FEND opens, from the stretch behind it: none where no FEND follows
abbrev pub opened : Option (List ℕ) → List (List ℕ)
opened none = []
opened (some s) = kept s

-- the frames of an input: each FEND opens at most one, which the next FEND closes
unfoldable pub frames_of : List ℕ → List (List ℕ)
frames_of [] = []
frames_of (b ∷ w) = pick (is_fend b) (opened (stretch w)) [] ++ frames_of w

-- ---- the same in document 01's own order

-- split the input at each FEND
abbrev pub onto : ℕ → List (List ℕ) → List (List ℕ)
onto b [] = []
onto b (p ∷ ps) = (b ∷ p) ∷ ps

unfoldable pub split : List ℕ → List (List ℕ)
split [] = [] ∷ []
split (b ∷ w) = pick (is_fend b) ([] ∷ split w) (onto b (split w))

-- of the pieces, what follows the last FEND is none
abbrev pub closed : List (List ℕ) → List (List ℕ)
closed [] = []
closed (p ∷ []) = []
closed (p ∷ q ∷ ps) = kept p ++ closed (q ∷ ps)

-- drop what precedes the first FEND
abbrev pub split_frames : List (List ℕ) → List (List ℕ)
split_frames [] = []
split_frames (p ∷ ps) = closed ps
