-- The LICH collection, from document 01 ("six segments of five bytes .. tells how many of the six segments have been heard, and yields 30 bytes when all have")
-- and the M17 protocol specification's cutting of an LSF into six segments of five bytes. Assumes nothing.
use Rattle.std.specs.Prelude.{ℕ, ◌+◌, ◌*◌, List, ltb, leb, eqb, replicate, Result, Ok, Err, Option, Some, None}
use Rattle.choice.specs.Pick.{pick}
use Rattle.room.specs.Room.{placed}
use Rattle.lich.specs.declared.LichCollection.{LichCollection}
use Rattle.lich.specs.declared.LichError.{LichError}
use Rattle.lich.specs.declared.LichError.TheVariants.{IndexOver5, OutOfBounds}
use Rattle.lich.specs.declared.SegmentSet.{SegmentSet}
use Rattle.lsf_layout.specs.Bits.{Field, bits_at, with_bits_at}
use Rattle.lsf_layout.specs.Bytes.{part}

-- segment i of an LSF
abbrev pub segment_of : ℕ → List ℕ → List ℕ
segment_of i f = part (5 * i) 5 f

-- the mask's bit for segment i
abbrev pub segment_bit : ℕ → Field
segment_bit i = record { low = i; width = 1 }

-- 1 where segment i has been heard, else 0
abbrev pub heard : ℕ → ℕ → ℕ
heard i mask = bits_at (segment_bit i) mask

unfoldable pub heard_count : ℕ → ℕ
heard_count mask = heard 0 mask + heard 1 mask + heard 2 mask + heard 3 mask + heard 4 mask + heard 5 mask

abbrev pub new_collection : LichCollection
new_collection = record { segments = replicate 30 0; mask = 0 }

unfoldable pub valid_segments : LichCollection → Result ℕ LichError
valid_segments c = pick (leb 64 c.mask) (Err OutOfBounds) (Ok (heard_count c.mask))

-- the collection with segment i heard
unfoldable pub with_segment : ℕ → List ℕ → LichCollection → LichCollection
with_segment i p c = record { segments = placed p c.segments (5 * i); mask = with_bits_at (segment_bit i) 1 c.mask }

unfoldable pub segment_set : LichCollection → ℕ → List ℕ → SegmentSet
segment_set c i p =
    pick (leb 64 c.mask) (record { answer = Err OutOfBounds; collection = c })
    (pick (ltb 5 i) (record { answer = Err IndexOver5; collection = c })
    (record { answer = Ok tt; collection = with_segment i p c }))

-- all six segments, once they have been heard; until then there is no LSF yet
unfoldable pub assembled : LichCollection → Result (Option (List ℕ)) LichError
assembled c = pick (leb 64 c.mask) (Err OutOfBounds) (pick (eqb (heard_count c.mask) 6) (Ok (Some c.segments)) (Ok None))

-- ---- document 01's numbers for what is refused, and for the answers

abbrev pub lich_number : LichError → ℕ
lich_number IndexOver5 = 6
lich_number OutOfBounds = 8

abbrev pub count_number : Result ℕ LichError → ℕ
count_number (Ok n) = 0
count_number (Err e) = lich_number e

abbrev pub set_number : Result (Unit {0}) LichError → ℕ
set_number (Ok done) = 0
set_number (Err e) = lich_number e

-- an LSF that is not there yet is an answer 0 too
abbrev pub assembly_number : Result (Option (List ℕ)) LichError → ℕ
assembly_number (Ok lsf) = 0
assembly_number (Err e) = lich_number e
