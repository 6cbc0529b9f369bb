-- What is promised of the reader's meaning, from document 01. Each is proved in proofs/Kept.antt. Assumes nothing.
use Rattle.std.specs.Prelude.{ℕ, ◌≡◌, List, [], ◌∷◌, ◌++◌, map}
use Rattle.kiss_layout.specs.Escape.{FEND}
use Rattle.kiss_layout.specs.Build.{Building, frame_of}
use Rattle.kiss_layout.specs.Promises.{Accepted}
use Rattle.kiss_reader.specs.Meaning.{frames_of, split, split_frames}

-- the reader's meaning is document 01's: split at each FEND, drop what precedes the first, keep the stretches of 1 to 1,711 bytes
abbrev pub FramesAreTheSplit : Type 0
FramesAreTheSplit = (w : List ℕ) → frames_of w ≡ split_frames (split w)

-- ---- built frames

abbrev pub joined : List (List ℕ) → List ℕ
joined [] = []
joined (f ∷ fs) = f ++ joined fs

-- v is u with neighbouring FENDs folded into one, at any places or none
pub data Folds : List ℕ → List ℕ → Type 0 where
  ends : Folds [] []
  same : (b : ℕ) {u v : List ℕ} → Folds u v → Folds (b ∷ u) (b ∷ v)
  fold : {u v : List ℕ} → Folds (FEND ∷ u) v → Folds (FEND ∷ FEND ∷ u) v

-- calls of the builders, each with arguments that it accepts
pub data AllAccepted : List Building → Type 0 where
  none_accepted : AllAccepted []
  one_accepted : {b : Building} {bs : List Building} → Accepted b → AllAccepted bs → AllAccepted (b ∷ bs)

-- any bytes, then built frames, neighbouring FENDs folded at will: first the frames of the earlier bytes and one FEND, then exactly the built frames, once each,
-- in order. Demand 3 in `kiss_calls` says it of what a run of calls hands out
abbrev pub BuiltFramesAreMeant : Type 0
BuiltFramesAreMeant =
    (earlier : List ℕ) (b : Building) (bs : List Building) → AllAccepted (b ∷ bs)
    → (w : List ℕ) → Folds (earlier ++ joined (map frame_of (b ∷ bs))) w
    → frames_of w ≡ frames_of (earlier ++ FEND ∷ []) ++ map frame_of (b ∷ bs)
