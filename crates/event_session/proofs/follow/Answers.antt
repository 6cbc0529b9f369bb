-- `event_session::follow` meets its contract: what is held stands in the input, so that it can be shifted. Assumes nothing.
use Rattle.std.proofs.Common.{ℕ, List, ap, ◌∙◌, arith, rules}
use Rattle.std.specs.Prelude.{Result}
use Rattle.room.specs.declared.NoRoom.{NoRoom}
use Rattle.room.proofs.Copies.{shifted-yes}
use Rattle.event_session.proofs.follow.Goals as goal

pub unwrap-requires : goal.unwrap-requires
unwrap-requires g c =
    let shifts = ap (λ (p : Result (Unit {0}) NoRoom × List ℕ). p.0) (c.shift.ensures ∙ shifted-yes c.args.input.now c.args.at c.args.held (omega arith) (omega arith)) in
    rw shifts (search rules)
