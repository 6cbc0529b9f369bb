-- `kiss_escape::put_block` meets its contract. Assumes nothing.
use Rattle.std.proofs.Common.{◌≡◌, ap, sym, ◌∙◌, arith}
use lib.ListN.{length}
use lib.Seq.{sets}
use Rattle.blocks.proofs.Blocks.{stored_in}
use Rattle.kiss_escape.proofs.Plain.{plain_block}
use Rattle.kiss_escape.proofs.put_block.Goals as goal

pub returns-then-none_of : goal.returns-then-none_of
returns-then-none_of c =
    let a = c.args in let t = a.block.now in
    let as_is = plain_block t _ _ c.none_of.ensures c.none_of-2.ensures c.if-none_of.true in
    let long : length t ≡ 16 = c.told-block in
    let long_as_is = ap length as_is in
    (omega arith, stored_in t a.dst.now a.to c.store16.ensures (omega arith) ∙ ap (sets a.dst.now a.to) (sym as_is))
