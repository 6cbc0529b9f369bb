-- `tnc_stream::handle_stream` meets its contract. Assumes nothing.
use Rattle.std.proofs.Common.{◌≡◌, refl, sym, ap, ◌∙◌}
use mathlib.Core.Logic.{inl, inr}
use Rattle.std.specs.Prelude.{Ok}
use Rattle.state.specs.declared.Reception.{Reception}
use Rattle.radio.specs.Box.{Receiving}
use Rattle.radio.proofs.Cases.{heard_as, frame-only}
use Rattle.tnc_stream.specs.Stream.{received_in, ranged, stream_heard}
use Rattle.tnc_stream.proofs.Frames.{index_over, number-over, received_as, mask_in_lem}
use Rattle.tnc_stream.proofs.handle_stream.Goals as goal
use Rattle.tnc_stream.proofs.handle_stream.Goals.{then-frame-gt5-via-then-frame-gt5, then-frame-gt5-via-else-frame-gt5+then-frame-gt32767}

pub acquire-requires : goal.acquire-requires
acquire-requires c =
    let a = c.args in
    let listened : Receiving (record { radio = a.radio; rx = a.rx.now; out = a.out.now }) = frame-only _ (sym c.hears.ensures ∙ c.in-Ok-true.is ∙ ap Ok c.in-Ok-true.field-0-test) in
    let g = listened.sound in
    (mask_in_lem a.radio c.in-Acquiring.mask g.its_state c.reception.ensures c.in-Acquiring.is, c.if-frame-gt5.false, c.if-frame-gt32767.false, g.its_rx, g.its_out)

pub follow-requires : goal.follow-requires
follow-requires c =
    let a = c.args in
    let listened : Receiving (record { radio = a.radio; rx = a.rx.now; out = a.out.now }) = frame-only _ (sym c.hears.ensures ∙ c.in-Ok-true.is ∙ ap Ok c.in-Ok-true.field-0-test) in
    let g = listened.sound in
    (c.if-frame-gt5.false, c.if-frame-gt32767.false, g.its_rx, g.its_out)

pub restart-requires : goal.restart-requires
restart-requires c =
    let a = c.args in
    let listened : Receiving (record { radio = a.radio; rx = a.rx.now; out = a.out.now }) = frame-only _ (sym c.hears.ensures ∙ c.in-Ok-true.is ∙ ap Ok c.in-Ok-true.field-0-test) in
    let g = listened.sound in
    (c.if-frame-gt5.false, g.its_rx)

pub returns-in-Err : goal.returns-in-Err
unfolding stream_heard
returns-in-Err c =
    let a = c.args in heard_as a.radio a.rx.now a.out.now (ranged a.radio a.frame a.rx.now a.out.now) c.hears.ensures c.in-Err.is

pub returns-in-Ok-false : goal.returns-in-Ok-false
unfolding stream_heard
returns-in-Ok-false c =
    let a = c.args in
    heard_as a.radio a.rx.now a.out.now (ranged a.radio a.frame a.rx.now a.out.now) c.hears.ensures (c.in-Ok-false.is ∙ ap Ok c.in-Ok-false.field-0-test)

pub returns-then-frame-gt5 : goal.returns-then-frame-gt5
unfolding stream_heard
returns-then-frame-gt5 c =
    let a = c.args in
    let as_ranged : ranged a.radio a.frame a.rx.now a.out.now ≡ stream_heard a.radio a.frame a.rx.now a.out.now =
    heard_as a.radio a.rx.now a.out.now (ranged a.radio a.frame a.rx.now a.out.now) c.hears.ensures (c.in-Ok-true.is ∙ ap Ok c.in-Ok-true.field-0-test) in
    elim c.then-frame-gt5.branch [
      | then-frame-gt5-via-then-frame-gt5 w ↦ index_over a.radio a.frame a.rx.now a.out.now refl w.if-frame-gt5.true ∙ as_ranged
      | then-frame-gt5-via-else-frame-gt5+then-frame-gt32767 w ↦
          number-over a.radio a.frame a.rx.now a.out.now w.if-frame-gt5.false refl w.if-frame-gt32767.true ∙ as_ranged
    ]

pub returns-in-Acquiring : goal.returns-in-Acquiring
unfolding stream_heard
returns-in-Acquiring c =
    let a = c.args in
    let as_ranged : ranged a.radio a.frame a.rx.now a.out.now ≡ stream_heard a.radio a.frame a.rx.now a.out.now =
    heard_as a.radio a.rx.now a.out.now (ranged a.radio a.frame a.rx.now a.out.now) c.hears.ensures (c.in-Ok-true.is ∙ ap Ok c.in-Ok-true.field-0-test) in
    c.acquire.ensures
    ∙ received_as a.radio a.frame a.rx.now a.out.now c.if-frame-gt5.false c.if-frame-gt32767.false c.reception.ensures c.in-Acquiring.is ∙ as_ranged

pub returns-in-Stream : goal.returns-in-Stream
unfolding stream_heard
returns-in-Stream c =
    let a = c.args in
    let as_ranged : ranged a.radio a.frame a.rx.now a.out.now ≡ stream_heard a.radio a.frame a.rx.now a.out.now =
    heard_as a.radio a.rx.now a.out.now (ranged a.radio a.frame a.rx.now a.out.now) c.hears.ensures (c.in-Ok-true.is ∙ ap Ok c.in-Ok-true.field-0-test) in
    c.follow.ensures
    ∙ received_as a.radio a.frame a.rx.now a.out.now c.if-frame-gt5.false c.if-frame-gt32767.false c.reception.ensures c.in-Stream.is ∙ as_ranged

pub returns-in-Nothing : goal.returns-in-Nothing
unfolding stream_heard
returns-in-Nothing c =
    let a = c.args in
    let as_ranged : ranged a.radio a.frame a.rx.now a.out.now ≡ stream_heard a.radio a.frame a.rx.now a.out.now =
    heard_as a.radio a.rx.now a.out.now (ranged a.radio a.frame a.rx.now a.out.now) c.hears.ensures (c.in-Ok-true.is ∙ ap Ok c.in-Ok-true.field-0-test) in
    let p = c.restart.ensures in
    (λ t. ((p t).0, (p t).1, a.out.now))
    ∙ elim c.in-Nothing.is [
      | inl e ↦ received_as a.radio a.frame a.rx.now a.out.now c.if-frame-gt5.false c.if-frame-gt32767.false c.reception.ensures e
      | inr e ↦ received_as a.radio a.frame a.rx.now a.out.now c.if-frame-gt5.false c.if-frame-gt32767.false c.reception.ensures e.1
    ]
    ∙ as_ranged
