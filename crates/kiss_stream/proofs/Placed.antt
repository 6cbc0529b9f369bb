-- The parts of a content, each put at its place. Assumes nothing.
use Rattle.std.proofs.Common.{ℕ, ◌≡◌, List, [], ◌∷◌, ◌++◌, arith}
use Rattle.std.proofs.lemmas.List.{append-nil, take_at, drop_at}
use borrow.Rule.Slice.PartMut.{put_mid}
use lib.ListN.{length, set, replicate}

pub content_put : (part inner crc : List ℕ) (i : ℕ) → length part ≡ 5 → length inner ≡ 18
    → put_mid 24 2 (put_mid 6 18 (set (part ++ replicate 21 0) 5 i) inner) crc ≡ part ++ (i ∷ (inner ++ crc))
content_put (a ∷ b ∷ c ∷ d ∷ e ∷ []) inner crc i p q = rw (take_at inner (0 ∷ 0 ∷ []) 18 q, drop_at inner (0 ∷ 0 ∷ []) 18 q, append-nil)
content_put _ inner crc i p q = absurd (omega arith)
