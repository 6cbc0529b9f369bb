-- `radio_hears::hears` meets its contract. Assumes nothing.
use borrow.Author.Tests.{eq-eqb, ne_eqb}
use Rattle.choice.specs.Pick.{pick, not_yes, not_no}
use Rattle.radio.specs.Radio.{RX, MESSAGE, hears_by}
use Rattle.std.proofs.Common.{ap}
use mathlib.Core.Bool.{not}
use Rattle.radio_hears.proofs.hears.Goals as goal

pub returns-then-rx-ne-RX_STORE_LEN : goal.returns-then-rx-ne-RX_STORE_LEN
unfolding hears_by pick
returns-then-rx-ne-RX_STORE_LEN c = rw (ne_eqb c.args.rx RX c.if-rx-ne-RX_STORE_LEN.true)

pub returns-then-out-ne-MESSAGE_STORE_LEN : goal.returns-then-out-ne-MESSAGE_STORE_LEN
unfolding hears_by pick
returns-then-out-ne-MESSAGE_STORE_LEN c = let a = c.args in rw (eq-eqb a.rx RX c.if-rx-ne-RX_STORE_LEN.false, ne_eqb a.out MESSAGE c.if-out-ne-MESSAGE_STORE_LEN.true)

pub returns-then-not-is_sound : goal.returns-then-not-is_sound
unfolding hears_by pick
returns-then-not-is_sound c =
    let a = c.args in
    rw (eq-eqb a.rx RX c.if-rx-ne-RX_STORE_LEN.false, eq-eqb a.out MESSAGE c.if-out-ne-MESSAGE_STORE_LEN.false, not_no c.is_sound.ensures (ap not c.if-not-is_sound.true))

pub returns : goal.returns
unfolding hears_by pick
returns c =
    let a = c.args in
    rw (eq-eqb a.rx RX c.if-rx-ne-RX_STORE_LEN.false, eq-eqb a.out MESSAGE c.if-out-ne-MESSAGE_STORE_LEN.false, not_yes c.is_sound.ensures (ap not c.if-not-is_sound.false), c.ptt.ensures)
