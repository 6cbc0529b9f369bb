-- `host_frame::take_frame` meets its contract. Assumes nothing.
use mathlib.Core.Bool.{true, false, not}
use Rattle.std.proofs.Common.{◌≡◌, refl, ap, ◌∙◌, ℕ}
use mathlib.Core.List.{List}
use lib.ListN.{length}
use Rattle.choice.specs.Pick.{not_yes, not_no}
use Rattle.host_record.specs.declared.Host.{Host}
use Rattle.host_record.specs.Host.{stores_fit}
use Rattle.host_record.proofs.Stores.{packets_fit, streams_fit}
use Rattle.std.specs.Prelude.{Ok}
use Rattle.host_frame.specs.Frame.{answered}
use Rattle.host_frame.proofs.Cases.{stores_wrong, unsound, taken}
use Rattle.host_frame.proofs.take_frame.Goals as goal

pub returns-then-not-stores_fit : goal.returns-then-not-stores_fit
returns-then-not-stores_fit c =
    let a = c.args in
    stores_wrong a.host a.frame.now a.packets.now a.streams.now refl (not_no c.stores_fit.ensures (ap not c.if-not-stores_fit.true))

pub returns-then-not-is_sound : goal.returns-then-not-is_sound
returns-then-not-is_sound c =
    let fit : not c.stores_fit.result ≡ false → stores_fit (length c.args.packets.now) (length c.args.streams.now) ≡ true = λ n. not_yes c.stores_fit.ensures n in
    let a = c.args in
    unsound a.host a.frame.now a.packets.now a.streams.now refl (fit (ap not c.if-not-stores_fit.false)) (not_no c.is_sound.ensures (ap not c.if-not-is_sound.true))

pub returns : goal.returns
returns c =
    let fit : not c.stores_fit.result ≡ false → stores_fit (length c.args.packets.now) (length c.args.streams.now) ≡ true = λ n. not_yes c.stores_fit.ensures n in
    let a = c.args in
    let f = fit (ap not c.if-not-stores_fit.false) in
    ap (λ (w : Host × List ℕ × List ℕ). answered (Ok tt) w) c.obey.ensures
    ∙ taken a.host a.frame.now a.packets.now a.streams.now (packets_fit _ _ f) (streams_fit _ _ f) (not_yes c.is_sound.ensures (ap not c.if-not-is_sound.false))
