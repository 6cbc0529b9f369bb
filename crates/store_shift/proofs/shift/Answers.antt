-- `store_shift::shift` meets its contract. Assumes nothing.
use Rattle.std.proofs.Common.{ℕ, List, ◌-◌, sym, ap, ◌∙◌, arith}
use Rattle.std.specs.Prelude.{Ok}
use Rattle.room.proofs.Copies.{shifted-yes, shifted_beyond, shifted-turned, moved_none, moved}
use Rattle.store_shift.proofs.shift.Goals as goal

pub returns-then-dst-to : goal.returns-then-dst-to
returns-then-dst-to c = let a = c.args in sym (shifted_beyond a.dst.now a.from a.to c.if-dst-to.true)

pub returns-then-to-from : goal.returns-then-to-from
returns-then-to-from c = let a = c.args in sym (shifted-turned a.dst.now a.from a.to c.if-to-from.true)

pub returns-then-from-ne0 : goal.returns-then-from-ne0
returns-then-from-ne0 c =
    let a = c.args in
    ap (λ (d : List ℕ). (Ok tt, d)) (c.copy_within.ensures.after ∙ moved a.dst.now a.from (a.to - a.from) (omega arith))
    ∙ sym (shifted-yes a.dst.now a.from a.to (omega arith) (omega arith))

pub returns-else-from-ne0 : goal.returns-else-from-ne0
returns-else-from-ne0 c =
    let a = c.args in
    ap (λ (d : List ℕ). (Ok tt, d)) (moved_none a.dst.now a.from (a.to - a.from) (omega arith) (omega arith))
    ∙ sym (shifted-yes a.dst.now a.from a.to (omega arith) (omega arith))
