-- `frames_of` is document 01's own order: split at each FEND, drop what precedes the first, keep the stretches of 1 to 1,711 bytes. Assumes nothing.
use mathlib.Core.Path.{◌≡◌, refl}
use mathlib.Core.Bool.{Bool, true, false}
use mathlib.Core.Option.{Option, none, some, map}
use mathlib.Core.List.{List, [], ◌∷◌, ◌++◌}
use Prim.Native.Nat.{ℕ}
use Rattle.choice.specs.Pick.{pick}
use Rattle.kiss_layout.specs.Scan.{is_fend, stretch}
use Rattle.kiss_reader.specs.Meaning.{opened, frames_of, onto, split, split_frames}

-- the stretch before the first FEND is the first piece, unless it is the only one
abbrev first : List (List ℕ) → Option (List ℕ)
first [] = none
first (p ∷ []) = none
first (p ∷ q ∷ ps) = some p

-- the pieces of an input: at least one
data Pieces : List (List ℕ) → Type 0 where
  pieces : (p : List ℕ) (ps : List (List ℕ)) → Pieces (p ∷ ps)

pieces_of : (w : List ℕ) → Pieces (split w)
unfolding split pick
pieces_of [] = pieces [] []
pieces_of (b ∷ w) = by (is_fend b) (pieces_of w)
  where
    by : (t : Bool) {x : List (List ℕ)} → Pieces x → Pieces (pick t ([] ∷ x) (onto b x))
    by true {x} y = pieces [] x
    by false (pieces p ps) = pieces (b ∷ p) ps

stretch_first : (w : List ℕ) → stretch w ≡ first (split w)
unfolding split stretch pick
stretch_first [] = refl
stretch_first (b ∷ w) = rw (stretch_first w) (by (is_fend b) (pieces_of w))
  where
    by : (t : Bool) {x : List (List ℕ)} → Pieces x → pick t (some []) (map (λ s. b ∷ s) (first x)) ≡ first (pick t ([] ∷ x) (onto b x))
    by true (pieces p ps) = refl
    by false (pieces p []) = refl
    by false (pieces p (q ∷ ps)) = refl

pub frames_split : (w : List ℕ) → frames_of w ≡ split_frames (split w)
unfolding frames_of split pick
frames_split [] = refl
frames_split (b ∷ w) = rw (stretch_first w, frames_split w) (by (is_fend b) (pieces_of w))
  where
    by : (t : Bool) {x : List (List ℕ)} → Pieces x → pick t (opened (first x)) [] ++ split_frames x ≡ split_frames (pick t ([] ∷ x) (onto b x))
    by true (pieces p []) = refl
    by true (pieces p (q ∷ ps)) = refl
    by false (pieces p ps) = refl
