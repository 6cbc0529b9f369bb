-- `store::copy_in` meets its contract. Assumes nothing.
use Rattle.std.proofs.Common.{sym, ◌∙◌, arith}
use Rattle.std.specs.Prelude.{Ok}
use Rattle.room.proofs.Copies.{copied-yes, copied_no}
use Rattle.store.proofs.copy_in.Goals as goal

pub returns-then-dst-at : goal.returns-then-dst-at
returns-then-dst-at c = let a = c.args in sym (copied_no a.src.now a.dst.now a.at (omega arith))

pub returns-then-dst-at-2 : goal.returns-then-dst-at-2
returns-then-dst-at-2 c = let a = c.args in sym (copied_no a.src.now a.dst.now a.at (omega arith))

pub returns : goal.returns
returns c =
    let a = c.args in
    (λ t. (Ok tt, c.put.ensures t)) ∙ sym (copied-yes a.src.now a.dst.now a.at (omega arith))
