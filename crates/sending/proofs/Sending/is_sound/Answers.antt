-- `sending::Sending::is_sound` meets its contract. Assumes nothing.
use Rattle.choice.specs.Pick.{and_no, and_go, not_yes, not_no}
use Rattle.sending.specs.Sending.{sound_sending}
use Rattle.std.proofs.Common.{ap}
use mathlib.Core.Bool.{not}
use Rattle.sending.proofs.Sending.is_sound.Goals as goal

pub returns-then-not-is_sound : goal.returns-then-not-is_sound
unfolding sound_sending
returns-then-not-is_sound c = and_no _ (not_no c.is_sound.ensures (ap not c.if-not-is_sound.true))

pub returns : goal.returns
unfolding sound_sending
returns c = and_go (not_yes c.is_sound.ensures (ap not c.if-not-is_sound.false)) c.is_sound-2.ensures
