-- `sending::Sending::wants_to_send` meets its contract. Assumes nothing.
use mathlib.Core.Bool.{not}
use Rattle.std.proofs.Common.{refl, ap}
use Rattle.choice.specs.Pick.{pick_yes, pick_no}
use Rattle.sending.specs.Sending.{wants_to_send}
use Rattle.sending.proofs.Sending.wants_to_send.Goals as goal

pub returns-then-streams : goal.returns-then-streams
unfolding wants_to_send
returns-then-streams c = pick_yes _ c.if-streams.true refl

pub returns : goal.returns
unfolding wants_to_send
returns c = pick_no _ c.if-streams.false (ap not c.is_empty.ensures)
