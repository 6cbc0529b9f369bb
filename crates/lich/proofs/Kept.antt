-- The promises of specs/Promises.antt are kept. Assumes nothing.
use Prim.Native.Nat.{ℕ, ◌<◌}
use mathlib.Core.Path.{◌≡◌, refl, sym, ap, ◌∙◌}
use mathlib.Core.Bool.{Bool, true, false}
use mathlib.Core.List.{List, [], ◌∷◌}
use native.Mathlib.Nat.{zero-div}
use native.Mathlib.Omega.{arith}
use lib.Dec.{eqb, lit<}
use Rattle.choice.specs.Pick.{pick, tests}
use Rattle.lsf_layout.specs.Bits.{bits_at}
use Rattle.lich.specs.declared.LichCollection.{LichCollection}
use Rattle.std.specs.Prelude.{Ok, Some}
use Rattle.lich.specs.Lich.{segment_of, heard, heard_count, new_collection, with_segment, segment_set, assembled}
use Rattle.lich.specs.Promises.{Segment, after_all, is_among, SegmentIsTaken, HeardIsDistinct, AnyOrderGivesBack}
use Rattle.lich.proofs.Masks.{one_more}
use Rattle.lich.proofs.Collected.{Sound, after, all_sound_lem, all_heard, all_held, heard_last, six_segments}

new_sound : Sound new_collection
new_sound = record { small = omega arith; thirty = refl }

pub segment_is_taken : SegmentIsTaken
unfolding segment_set
segment_is_taken ss s = let g = all_sound_lem ss new_collection new_sound in sym (search tests)

-- in the end a segment is heard where its index is among the calls
new-heard : (ss : List Segment) (i : ℕ) → i < 6 → heard i (after_all ss new_collection).mask ≡ pick (is_among i ss) 1 0
unfolding bits_at
new-heard ss i h = all_heard ss new_collection new_sound i h ∙ rw zero-div

as_bit : (b : Bool) → eqb (pick b 1 0) 1 ≡ b
unfolding pick
as_bit true = refl
as_bit false = refl

pub heard_is_distinct : HeardIsDistinct
unfolding heard_count bits_at with_segment
heard_is_distinct [] = refl
heard_is_distinct (s ∷ ss) =
    let m = (after_all ss new_collection).mask in let i = s.index in
    ap heard_count (heard_last ss new_collection (after s new_collection) i new_sound s.in_range refl)
    ∙ one_more m i (all_sound_lem ss new_collection new_sound).small s.in_range
    ∙ rw (new-heard ss i s.in_range, as_bit (is_among i ss), heard_is_distinct ss)

whole : (c : LichCollection) → Sound c → ((i : ℕ) → i < 6 → heard i c.mask ≡ 1) → assembled c ≡ Ok (Some c.segments)
unfolding assembled heard_count
whole c g h =
    let n : heard_count c.mask ≡ 6 = rw (h 0 (lit< tt), h 1 (lit< tt), h 2 (lit< tt), h 3 (lit< tt), h 4 (lit< tt), h 5 (lit< tt)) in
    sym (search tests)

pub any_order_gives_back : AnyOrderGivesBack
unfolding pick
any_order_gives_back f n ss a =
    let g = all_sound_lem ss new_collection new_sound in
    whole (after_all ss new_collection) g (λ i h. new-heard ss i h ∙ ap (λ (b : Bool). pick b 1 0) (a.each_index i h))
    ∙ ap (λ (x : List ℕ). Ok (Some x))
    (six_segments (after_all ss new_collection).segments f g.thirty n
    (λ i h. all_held f ss a.each_right new_collection new_sound i ∙ ap (λ (b : Bool). pick b (segment_of i f) (segment_of i new_collection.segments)) (a.each_index i h)))
