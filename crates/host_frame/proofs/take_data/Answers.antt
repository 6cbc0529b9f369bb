-- `host_frame::take_data` meets its contract. Assumes nothing.
use Rattle.std.proofs.Common.{ap, ◌∙◌, ℕ, arith}
use mathlib.Core.List.{List}
use borrow.Author.Tests.{eq-eqb, ne_eqb}
use Rattle.choice.specs.Pick.{pick_yes, pick_no}
use Rattle.packets.specs.declared.Pushed.{Pushed}
use Rattle.streams.specs.declared.StreamPushed.{StreamPushed}
use Rattle.host_frame.specs.Data.{with_packets, with_streams, data_taken}
use Rattle.host_frame.proofs.take_data.Goals as goal

pub returns-in-0 : goal.returns-in-0
unfolding data_taken
returns-in-0 c =
    let a = c.args in
    (λ t. (c.with_packets.ensures t, c.push_basic.new.store, a.streams.now))
    ∙ pick_yes _ (eq-eqb _ _ c.in-0.is) (ap (λ (w : Pushed × List ℕ). (with_packets a.host w.0.queue, w.1, a.streams.now)) c.push_basic.ensures)

pub returns-in-1 : goal.returns-in-1
unfolding data_taken
returns-in-1 c =
    let a = c.args in
    (λ t. (c.with_packets-in-1.ensures t, c.push_full.new.store, a.streams.now))
    ∙ pick_no _ (ne_eqb _ _ (λ e. absurd (omega (arith, e))))
    (pick_yes _ (eq-eqb _ _ c.in-1.is) (ap (λ (w : Pushed × List ℕ). (with_packets a.host w.0.queue, w.1, a.streams.now)) c.push_full.ensures))

pub returns-in_default : goal.returns-in_default
unfolding data_taken
returns-in_default c =
    let a = c.args in
    (λ t. (c.with_streams.ensures t, a.packets.now, c.push.new.store))
    ∙ pick_no _ (ne_eqb _ _ (λ e. absurd (omega (arith, e))))
    (pick_no _ (ne_eqb _ _ (λ e. absurd (omega (arith, e)))) (ap (λ (w : StreamPushed × List ℕ). (with_streams a.host w.0.queue, a.packets.now, w.1)) c.push.ensures))
