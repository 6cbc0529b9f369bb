-- `tnc_air::handle_packet` meets its contract. Assumes nothing.
use Rattle.std.proofs.Common.{ℕ, ◌≡◌, sym, ap, ◌∙◌}
use mathlib.Core.List.{List}
use Rattle.std.specs.Prelude.{Ok}
use Rattle.protocol.specs.declared.PacketFrameCounter.{PacketFrameCounter}
use Rattle.radio.specs.Box.{Receiving}
use Rattle.radio.proofs.Cases.{heard_as, frame-only}
use Rattle.tnc_air.specs.Heard.{counted, packet_heard}
use Rattle.tnc_air.proofs.handle_packet.Goals as goal

pub collect-requires : goal.collect-requires
collect-requires c =
    let a = c.args in
    let listened : Receiving (record { radio = a.radio; rx = a.rx.now; out = a.out.now }) = frame-only _ (sym c.hears.ensures ∙ c.in-Ok-true.is ∙ ap Ok c.in-Ok-true.field-0-test) in
    listened.sound.its_rx

pub finish-requires : goal.finish-requires
finish-requires c =
    let a = c.args in
    let listened : Receiving (record { radio = a.radio; rx = a.rx.now; out = a.out.now }) = frame-only _ (sym c.hears.ensures ∙ c.in-Ok-true.is ∙ ap Ok c.in-Ok-true.field-0-test) in
    let s = listened.sound in (s.its_state, s.its_rx, s.its_out)

pub returns-in-Err : goal.returns-in-Err
unfolding packet_heard
returns-in-Err c =
    let a = c.args in heard_as a.radio a.rx.now a.out.now (counted a.frame.counter a.radio a.frame.payload a.rx.now a.out.now) c.hears.ensures c.in-Err.is

pub returns-in-Ok-false : goal.returns-in-Ok-false
unfolding packet_heard
returns-in-Ok-false c =
    let a = c.args in
    heard_as a.radio a.rx.now a.out.now (counted a.frame.counter a.radio a.frame.payload a.rx.now a.out.now) c.hears.ensures
    (c.in-Ok-false.is ∙ ap Ok c.in-Ok-false.field-0-test)

pub returns-in-Frame : goal.returns-in-Frame
unfolding packet_heard
returns-in-Frame c =
    let a = c.args in let p = c.collect.ensures in
    (λ t. ((p t).0, (p t).1, a.out.now)) ∙ ap (λ (m : PacketFrameCounter). counted m a.radio a.frame.payload a.rx.now a.out.now) (sym c.in-Frame.is)
    ∙ heard_as a.radio a.rx.now a.out.now (counted a.frame.counter a.radio a.frame.payload a.rx.now a.out.now) c.hears.ensures
    (c.in-Ok-true.is ∙ ap Ok c.in-Ok-true.field-0-test)

pub returns-in-FinalFrame : goal.returns-in-FinalFrame
unfolding packet_heard
returns-in-FinalFrame c =
    let a = c.args in
    c.finish.ensures ∙ ap (λ (m : PacketFrameCounter). counted m a.radio a.frame.payload a.rx.now a.out.now) (sym c.in-FinalFrame.is)
    ∙ heard_as a.radio a.rx.now a.out.now (counted a.frame.counter a.radio a.frame.payload a.rx.now a.out.now) c.hears.ensures
    (c.in-Ok-true.is ∙ ap Ok c.in-Ok-true.field-0-test)
