-- `event_step::host_byte` meets its contract. Assumes nothing.
use Rattle.std.proofs.Common.{refl}
use borrow.Author.Tests.{eq-eqb, ne_eqb}
use lib.ListN.{length}
use Rattle.choice.specs.Pick.{pick_yes, pick_no}
use Rattle.kiss_calls.specs.Calls.{write_number}
use Rattle.event_step.proofs.Answers.{numbered, write_is}
use Rattle.event_step.proofs.host_byte.Goals as goal

pub returns-then-body-ne1 : goal.returns-then-body-ne1
returns-then-body-ne1 c = let a = c.args in pick_no _ (ne_eqb (length a.body.now) 1 c.if-body-ne1.true) (λ j. (c.refuse.ensures j, a.reader.now, a.packets.now, a.streams.now))

pub returns : goal.returns
returns c =
    pick_yes _ (eq-eqb (length c.args.body.now) 1 c.if-body-ne1.false)
    (write_is c.write_kiss-written.result c.write_kiss-written.new.reader c.write_kiss-written.new.packets c.write_kiss-written.new.streams c.answer.ensures (numbered _ write_number (λ _. refl) (λ _. refl) _ c.number_of.ensures) c.write_kiss-written.ensures)
