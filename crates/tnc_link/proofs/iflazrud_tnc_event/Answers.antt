-- `tnc_link::iflazrud_tnc_event` meets its contract. Assumes nothing.
use Rattle.std.proofs.Common.{refl, ap, ◌∙◌}
use Rattle.choice.specs.Pick.{pick_yes, pick_no}
use Rattle.event_answer.specs.declared.EventBox.{EventBox}
use Rattle.event_step.specs.Step.{applied, world_of}
use Rattle.tnc_link.specs.Saved.{box_of, saved_turn, of_turn, event_on}
use Rattle.tnc_link.proofs.Known.{read_no, read-yes}
use Rattle.tnc_link.proofs.iflazrud_tnc_event.Goals as goal

pub returns-in_default : goal.returns-in_default
unfolding event_on
returns-in_default c = pick_no _ (read_no _ _ c.try_from.ensures c.in_default.is) refl

pub returns : goal.returns
unfolding event_on
returns c =
    let a = c.args in
    let v = a.saved in
    let l = c.apply-applied.new in
    let read = read-yes v.state v.value c.try_from.ensures c.in-Ok.is in
    (λ t. saved_turn (c.tell.ensures t) l.reader l.packets l.streams l.rx l.message l.bytes)
    ∙ ap of_turn c.apply-applied.ensures
    ∙ ap
    (λ (b : EventBox).
    of_turn (applied a.kind a.body.now (world_of b a.reader.now a.packets.now a.streams.now a.rx.now a.message.now) a.bytes.now))
    (c.restore.ensures ∙ (λ t. box_of v.buffer v.sending (read.1 t) v.outgoing v.ptt v.channel))
    ∙ pick_yes _ read.0 refl
