-- `tnc_stream::restart` meets its contract. Assumes nothing.
use Rattle.std.proofs.Common.{◌≡◌, sym, ap, ◌∙◌, arith, rules}
use lib.ListN.{length}
use lib.Seq.{length-take-le}
use Rattle.lich.specs.declared.LichCollection.{LichCollection}
use Rattle.lich.specs.Lich.{segment_set}
use Rattle.tnc_stream.proofs.Segments.{restart_is}
use Rattle.tnc_stream.proofs.restart.Goals as goal

pub slice_bounds-copy_from_slice-end-2 : goal.slice_bounds-copy_from_slice-end-2
slice_bounds-copy_from_slice-end-2 c = sym (length-take-le 30 c.args.rx.now (omega (arith, c.requires.1)))

pub copy_from_slice-requires : goal.copy_from_slice-requires
copy_from_slice-requires c =
    let thirty : length c.set_segment-set.result.collection.segments ≡ 30 = search rules in
    length-take-le 30 c.args.rx.now (omega (arith, c.requires.1)) ∙ sym thirty

pub returns : goal.returns
returns c =
    let five : length c.args.frame.lich_part ≡ 5 = search rules in
    let a = c.args in let f = a.frame in
    let e = c.set_segment-set.ensures ∙ ap (λ (k : LichCollection). segment_set k f.lich_idx f.lich_part) c.new.ensures in
    restart_is a.radio f a.rx.now c.requires.0 five e c.turned.ensures c.copy_from_slice.ensures.after
