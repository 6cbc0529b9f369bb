-- `air_lsf::handle_lsf` meets its contract. Assumes nothing.
use Rattle.std.proofs.Common.{ℕ, ◌≤◌, ◌≡◌, sym, ap, ◌∙◌, arith, rules}
use mathlib.Core.List.{List, ◌++◌}
use lib.ListN.{length, drop}
use lib.Seq.{length-take-le}
use Rattle.std.specs.Prelude.{Ok, true}
use Rattle.room.specs.Room.{over}
use Rattle.protocol.specs.Lsf.{field_of, mode_bits}
use Rattle.protocol.specs.Kinds.{mode_of}
use Rattle.protocol.specs.declared.lsf.Mode.{Mode}
use Rattle.kiss_layout.specs.Build.{stream_setup}
use Rattle.state.specs.declared.State.TheVariants.{RxStream}
use Rattle.radio.specs.declared.Heard.{Heard}
use Rattle.radio.specs.Box.{Box, Receiving}
use Rattle.radio.proofs.Cases.{heard_as, frame-only}
use Rattle.radio.proofs.Messages.{setup_accepted}
use Rattle.radio_told.proofs.Tells.{told}
use Rattle.air_lsf.specs.Begun.{begun, lsf_heard}
use Rattle.air_lsf.proofs.handle_lsf.Goals as goal

pub slice_bounds-copy_from_slice-end : goal.slice_bounds-copy_from_slice-end
slice_bounds-copy_from_slice-end c =
    let a = c.args in
    let listened : Receiving (record { radio = a.radio; rx = a.rx.now; out = a.out.now }) = frame-only _ (sym c.hears.ensures ∙ c.in-Ok-true.is ∙ ap Ok c.in-Ok-true.field-0-test) in
    omega (arith, listened.sound.its_rx)

pub slice_bounds-copy_from_slice-end-in-Packet : goal.slice_bounds-copy_from_slice-end-in-Packet
slice_bounds-copy_from_slice-end-in-Packet c =
    let a = c.args in
    let listened : Receiving (record { radio = a.radio; rx = a.rx.now; out = a.out.now }) = frame-only _ (sym c.hears.ensures ∙ c.in-Ok-true.is ∙ ap Ok c.in-Ok-true.field-0-test) in
    sym (length-take-le 30 a.rx.now (omega (arith, listened.sound.its_rx)))

pub copy_from_slice-requires : goal.copy_from_slice-requires
copy_from_slice-requires c =
    let a = c.args in let thirty : length a.lsf.0 ≡ 30 = search rules in
    let listened : Receiving (record { radio = a.radio; rx = a.rx.now; out = a.out.now }) = frame-only _ (sym c.hears.ensures ∙ c.in-Ok-true.is ∙ ap Ok c.in-Ok-true.field-0-test) in
    length-take-le 30 a.rx.now (omega (arith, listened.sound.its_rx)) ∙ sym thirty

pub returns-in-Err : goal.returns-in-Err
unfolding lsf_heard
returns-in-Err c =
    let a = c.args in
    heard_as a.radio a.rx.now a.out.now (begun (mode_of (field_of mode_bits a.lsf.0)) a.radio a.lsf.0 a.rx.now a.out.now) c.hears.ensures c.in-Err.is

pub returns-in-Ok-false : goal.returns-in-Ok-false
unfolding lsf_heard
returns-in-Ok-false c =
    let a = c.args in
    heard_as a.radio a.rx.now a.out.now (begun (mode_of (field_of mode_bits a.lsf.0)) a.radio a.lsf.0 a.rx.now a.out.now) c.hears.ensures
    (c.in-Ok-false.is ∙ ap Ok c.in-Ok-false.field-0-test)

pub returns-in-Packet : goal.returns-in-Packet
unfolding lsf_heard
returns-in-Packet c =
    let a = c.args in let p = a.lsf.0 in let d = a.rx.now in
    let thirty : length p ≡ 30 = search rules in
    let heard : Heard × List ℕ × List ℕ = begun (mode_of (field_of mode_bits p)) a.radio p d a.out.now in
    let e : c.copy_from_slice.new.self ++ drop 30 d ≡ over p d =
    ap (λ (v : List ℕ). v ++ drop 30 d) c.copy_from_slice.ensures.after ∙ ap (λ (n : ℕ). p ++ drop n d) (sym thirty) in
    (λ t. (c.turned.ensures t, e t, a.out.now)) ∙ ap (λ (m : Mode). begun m a.radio p d a.out.now) (sym c.in-Packet.is ∙ c.mode.ensures)
    ∙ heard_as a.radio d a.out.now heard c.hears.ensures (c.in-Ok-true.is ∙ ap Ok c.in-Ok-true.field-0-test)

pub returns-in-Stream : goal.returns-in-Stream
unfolding lsf_heard
returns-in-Stream c =
    let a = c.args in let p = a.lsf.0 in let out = a.out.now in
    let thirty : length p ≡ 30 = search rules in
    let heard : Heard × List ℕ × List ℕ = begun (mode_of (field_of mode_bits p)) a.radio p a.rx.now out in
    let listened : Receiving (record { radio = a.radio; rx = a.rx.now; out = a.out.now }) = frame-only _ (sym c.hears.ensures ∙ c.in-Ok-true.is ∙ ap Ok c.in-Ok-true.field-0-test) in
    let q = told (RxStream 0) (stream_setup p) out _ _ _ (setup_accepted p thirty) listened.sound.its_out c.new_stream_setup.ensures c.told.ensures in
    (λ t. ((q t).0, a.rx.now, (q t).1)) ∙ ap (λ (m : Mode). begun m a.radio p a.rx.now out) (sym c.in-Stream.is ∙ c.mode.ensures)
    ∙ heard_as a.radio a.rx.now out heard c.hears.ensures (c.in-Ok-true.is ∙ ap Ok c.in-Ok-true.field-0-test)
