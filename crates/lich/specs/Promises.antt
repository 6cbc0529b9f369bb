-- What is promised of the LICH collection over several calls, from document 01 under "LSF, LICH, frames". Each is proved in proofs/Kept.antt. Assumes nothing.
use Rattle.std.specs.Prelude.{ℕ, suc, ◌<◌, Bool, true, false, ◌≡◌, List, [], ◌∷◌, eqb, length, Ok, Some}
use Rattle.choice.specs.Pick.{pick}
use Rattle.lich.specs.declared.LichCollection.{LichCollection}
use Rattle.lich.specs.Lich.{segment_of, heard_count, new_collection, with_segment, segment_set, assembled}

-- calls of set_segment that are accepted, first to last: an index of 0 to 5 and a segment of five bytes
pub record Segment : Type 0 where
  pub index : ℕ
  pub bytes : List ℕ
  pub in_range : index < 6
  pub five : length bytes ≡ 5

abbrev pub after_all : List Segment → LichCollection → LichCollection
after_all [] c = c
after_all (s ∷ ss) c = after_all ss (with_segment s.index s.bytes c)

abbrev pub is_among : ℕ → List Segment → Bool
is_among i [] = false
is_among i (s ∷ ss) = pick (eqb i s.index) true (is_among i ss)

-- each of these calls is accepted, after any of them on a new collection
abbrev pub SegmentIsTaken : Type 0
SegmentIsTaken =
    (ss : List Segment) (s : Segment) → segment_set (after_all ss new_collection) s.index s.bytes
    ≡ record { answer = Ok tt; collection = with_segment s.index s.bytes (after_all ss new_collection) }

-- how many distinct indices a list of calls has
abbrev pub distinct : List Segment → ℕ
distinct [] = 0
distinct (s ∷ ss) = pick (is_among s.index ss) (distinct ss) (suc (distinct ss))

-- how many segments have been heard is the number of distinct indices set
abbrev pub HeardIsDistinct : Type 0
HeardIsDistinct = (ss : List Segment) → heard_count (after_all ss new_collection).mask ≡ distinct ss

-- each of the segments is the LSF's own at its index
pub data OfLsf (f : List ℕ) : List Segment → Type 0 where
  none : OfLsf f []
  more : {s : Segment} {ss : List Segment} → s.bytes ≡ segment_of s.index f → OfLsf f ss → OfLsf f (s ∷ ss)

-- segments that are those of the LSF f, in any order and however often, each of the six at least once
pub record AllOf (f : List ℕ) (ss : List Segment) : Type 0 where
  pub each_index : (i : ℕ) → i < 6 → is_among i ss ≡ true
  pub each_right : OfLsf f ss

-- they give the LSF back
abbrev pub AnyOrderGivesBack : Type 0
AnyOrderGivesBack =
    (f : List ℕ) → length f ≡ 30 → (ss : List Segment) → AllOf f ss → assembled (after_all ss new_collection) ≡ Ok (Some f)
