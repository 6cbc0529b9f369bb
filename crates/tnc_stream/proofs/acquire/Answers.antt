-- `tnc_stream::acquire` meets its contract. Assumes nothing.
use Rattle.std.proofs.Common.{ℕ, ◌≡◌, sym, ap, ◌∙◌, arith, rules}
use mathlib.Core.List.{List}
use lib.ListN.{length, take}
use lib.Seq.{length-take-le}
use Rattle.room.specs.Room.{over}
use Rattle.lich.specs.declared.LichCollection.{LichCollection}
use Rattle.lich.specs.Lich.{segment_set}
use Rattle.tnc_stream.specs.Restarted.{with_frame}
use Rattle.tnc_stream.proofs.Segments.{frame-set, frame_mask, frame_thirty, segments_in}
use Rattle.tnc_stream.specs.Acquired.{acquired_with}
use Rattle.tnc_stream.specs.Stream.{collection_at, acquired}
use Rattle.tnc_stream.proofs.acquire.Goals as goal

pub slice_bounds-copy_from_slice-end-3 : goal.slice_bounds-copy_from_slice-end-3
slice_bounds-copy_from_slice-end-3 c = sym (length-take-le 30 c.args.rx.now (omega (arith, c.requires.3)))

pub copy_from_slice-requires : goal.copy_from_slice-requires
copy_from_slice-requires c = sym (length-take-le 30 c.args.rx.now (omega (arith, c.requires.3)))

pub complete-requires : goal.complete-requires
complete-requires c =
    let a = c.args in let f = a.frame in let t = take 30 a.rx.now in
    let its_30 : length t ≡ 30 = length-take-le 30 a.rx.now (omega (arith, c.requires.3)) in
    let found : LichCollection = collection_at a.mask a.rx.now in
    let now_set_lem : c.set_segment-set.result.collection ≡ with_frame f found =
    frame-set f found c.requires.1 (c.set_segment-set.ensures ∙ ap (λ (x : List ℕ). segment_set (record { segments = x; mask = a.mask }) f.lich_idx f.lich_part) c.copy_from_slice.ensures.after) c.requires.0 in
    (omega (arith, ap (λ (k : LichCollection). k.mask) now_set_lem, frame_mask f found c.requires.1 c.requires.0), c.requires.2, c.requires.4)

pub returns : goal.returns
unfolding acquired
returns c =
    let a = c.args in let f = a.frame in let t = take 30 a.rx.now in
    let its_30 : length t ≡ 30 = length-take-le 30 a.rx.now (omega (arith, c.requires.3)) in
    let found : LichCollection = collection_at a.mask a.rx.now in
    let now_set_lem : c.set_segment-set.result.collection ≡ with_frame f found =
    frame-set f found c.requires.1 (c.set_segment-set.ensures ∙ ap (λ (x : List ℕ). segment_set (record { segments = x; mask = a.mask }) f.lich_idx f.lich_part) c.copy_from_slice.ensures.after) c.requires.0 in
    let five : length f.lich_part ≡ 5 = search rules in
    let q = c.complete.ensures in let n = frame_thirty f found c.requires.1 five its_30 in
    let w = segments_in c.set_segment-set.result.collection.segments a.rx.now (ap (λ (k : LichCollection). length k.segments) now_set_lem ∙ n) c.copy_from_slice-2.ensures.after in
    (λ t. ((q t).0, w t, (q t).1))
    ∙ ap (λ (k : LichCollection). let h = acquired_with a.radio k f.frame_number a.out.now in (h.0, over k.segments a.rx.now, h.1)) now_set_lem
