-- `event_step::carrier` meets its contract. Assumes nothing.
use Rattle.std.proofs.Common.{refl}
use borrow.Author.Tests.{eq-eqb, ne_eqb}
use lib.ListN.{length}
use Rattle.choice.specs.Pick.{pick_yes, pick_no}
use Rattle.channel.specs.Access.{set_number}
use Rattle.event_step.proofs.Answers.{numbered, set_is}
use Rattle.event_step.proofs.carrier.Goals as goal

pub returns-then-body-ne1 : goal.returns-then-body-ne1
returns-then-body-ne1 c = pick_no _ (ne_eqb (length c.args.body.now) 1 c.if-body-ne1.true) c.refuse.ensures

pub returns : goal.returns
returns c =
    let a = c.args in pick_yes _ (eq-eqb (length a.body.now) 1 c.if-body-ne1.false) (set_is a.before.tnc c.set_data_carrier_detect-set.result c.answer.ensures (numbered _ set_number (λ _. refl) (λ _. refl) _ c.number_of.ensures) c.set_data_carrier_detect-set.ensures)
