-- `event_open::opened` meets its contract. Assumes nothing.
use Rattle.event_open.proofs.Opens.{none_held, other_held, fend_held}
use Rattle.event_open.proofs.opened.Goals as goal

pub returns-in_default : goal.returns-in_default
returns-in_default c = none_held c.args.held.now c.in_default.ensures.cases

pub returns-then-first : goal.returns-then-first
returns-then-first c = fend_held c.args.held.now _ _ _ c.in-Some.ensures.cases.0 c.if-first.true c.to_fend.ensures

pub returns-else-first : goal.returns-else-first
returns-else-first c = other_held c.args.held.now _ _ c.in-Some.ensures.cases.0 c.if-first.false
