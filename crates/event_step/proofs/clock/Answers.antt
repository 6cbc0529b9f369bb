-- `event_step::clock` meets its contract. Assumes nothing.
use Rattle.std.proofs.Common.{refl, ap, ◌∙◌}
use borrow.Author.Tests.{eq-eqb, ne_eqb}
use lib.ListN.{length}
use Rattle.choice.specs.Pick.{pick_yes, pick_no}
use Rattle.tnc_clock.specs.Clock.{now_set}
use Rattle.event_step.proofs.Numbers.{number_of_eight}
use Rattle.channel.specs.Access.{set_number}
use Rattle.event_step.proofs.Answers.{numbered, timed_is}
use Rattle.event_step.proofs.clock.Goals as goal

pub returns-then-body-ne8 : goal.returns-then-body-ne8
returns-then-body-ne8 c = pick_no _ (ne_eqb (length c.args.body.now) 8 c.if-body-ne8.true) c.refuse.ensures

pub returns : goal.returns
returns c =
    let a = c.args in
    let long = c.if-body-ne8.false in pick_yes _ (eq-eqb (length a.body.now) 8 long)
    (timed_is c.set_now-set.result c.answer.ensures (numbered _ set_number (λ _. refl) (λ _. refl) _ c.number_of.ensures)
    (c.set_now-set.ensures ∙ ap (now_set a.before.tnc a.before.channel) (c.number.ensures ∙ number_of_eight a.body.now long c.type_inv.body)))
