-- `radio::Radio::is_sound` meets its contract. Assumes nothing.
use Rattle.std.proofs.Common.{sym, ◌∙◌}
use Rattle.choice.specs.Pick.{callees, and_no}
use Rattle.radio.specs.Radio.{sound_radio}
use Rattle.radio.proofs.Radio.is_sound.Goals as goal

pub returns-then-is_sound : goal.returns-then-is_sound
unfolding sound_radio
returns-then-is_sound c = search callees

pub returns-else-is_sound : goal.returns-else-is_sound
unfolding sound_radio
returns-else-is_sound c = let n = c.if-is_sound.false in n ∙ and_no _ (sym c.is_sound.ensures ∙ n)
