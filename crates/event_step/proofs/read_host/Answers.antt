-- `event_step::read_host` meets its contract. Assumes nothing.
use Rattle.std.proofs.Common.{◌≤◌, ◌≡◌, refl, sym, ◌∙◌, arith}
use borrow.Author.Tests.{eq-eqb, ne_eqb, le-leb, lt-leb}
use lib.ListN.{length, get_or}
use lib.Seq.{length-take-le}
use Rattle.choice.specs.Pick.{pick_yes, pick_no}
use Rattle.event_answer.specs.Answer.{MOST}
use Rattle.outgoing.specs.Message.{host_number}
use Rattle.event_step.proofs.Answers.{numbered, counted, read_part}
use Rattle.event_step.proofs.read_host.Goals as goal

pub overflow_cast-most : goal.overflow_cast-most
overflow_cast-most c = omega (arith, c.type_inv.body 0)

pub slice_bounds-read_kiss-end : goal.slice_bounds-read_kiss-end
slice_bounds-read_kiss-end c =
    let within : get_or c.args.body.now 0 0 ≤ length c.args.bytes.now = omega (arith, c.type_inv.body 0, c.if-bytes-lt-MOST_BYTES.false) in
    within

pub slice_bounds-read_kiss-end-2 : goal.slice_bounds-read_kiss-end-2
slice_bounds-read_kiss-end-2 c =
    let within : get_or c.args.body.now 0 0 ≤ length c.args.bytes.now = omega (arith, c.type_inv.body 0, c.if-bytes-lt-MOST_BYTES.false) in
    sym (length-take-le _ _ (within))

pub returns-then-body-ne1 : goal.returns-then-body-ne1
returns-then-body-ne1 c = let a = c.args in pick_no _ (ne_eqb (length a.body.now) 1 c.if-body-ne1.true) (λ j. (c.refuse.ensures j, a.bytes.now))

pub returns-then-bytes-lt-MOST_BYTES : goal.returns-then-bytes-lt-MOST_BYTES
returns-then-bytes-lt-MOST_BYTES c =
    let a = c.args in
    pick_yes _ (eq-eqb (length a.body.now) 1 c.if-body-ne1.false) (pick_no _ (lt-leb MOST (length a.bytes.now) c.if-bytes-lt-MOST_BYTES.true) (λ j. (c.refuse-then-bytes-lt-MOST_BYTES.ensures j, a.bytes.now)))

pub returns : goal.returns
returns c =
    let within : get_or c.args.body.now 0 0 ≤ length c.args.bytes.now = omega (arith, c.type_inv.body 0, c.if-bytes-lt-MOST_BYTES.false) in
    let a = c.args in let as_long : get_or a.body.now 0 0 ≡ length c.read_kiss-read.new.target = sym (c.read_kiss-read.auto.target ∙ length-take-le (get_or a.body.now 0 0) a.bytes.now (within)) in
    pick_yes _ (eq-eqb (length a.body.now) 1 c.if-body-ne1.false)
    (pick_yes _ (le-leb MOST (length a.bytes.now) c.if-bytes-lt-MOST_BYTES.false)
    (read_part a.before.channel c.read_kiss-read.result a.bytes.now c.read_kiss-read.new.target (get_or a.body.now 0 0) as_long (counted c.read_kiss-read.result.answer c.unwrap_or-count.ensures) c.answer.ensures (numbered _ host_number (λ _. refl) (λ _. refl) _ c.number_of.ensures) c.read_kiss-read.ensures))
