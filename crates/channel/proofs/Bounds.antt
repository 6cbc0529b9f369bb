-- What a sound channel says of its numbers. Assumes nothing.
use Prim.Native.Nat.{◌+◌, ◌≤◌}
use mathlib.Core.Bool.{true}
use mathlib.Core.Path.{◌≡◌}
use borrow.Author.Tests.{leb-true}
use Rattle.choice.specs.Pick.{and_fst, and_snd}
use Rattle.channel.specs.declared.Channel.{Channel}
use Rattle.channel.specs.Access.{LAST, SLOT, sound_channel}

pub clock_bound : (c : Channel) → sound_channel c ≡ true → c.clock ≤ LAST
unfolding sound_channel
clock_bound c e = leb-true c.clock LAST (and_fst _ _ e)

pub check_bound : (c : Channel) → sound_channel c ≡ true → c.check ≤ LAST + SLOT
unfolding sound_channel
check_bound c e = leb-true c.check (LAST + SLOT) (and_snd _ _ e)
