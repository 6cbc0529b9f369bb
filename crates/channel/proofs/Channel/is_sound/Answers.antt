-- `channel::Channel::is_sound` meets its contract. Assumes nothing.
use Rattle.std.proofs.Common.{◌∙◌}
use borrow.Author.Tests.{lt-leb}
use Rattle.choice.specs.Pick.{tests, and_no}
use Rattle.channel.specs.Access.{sound_channel}
use Rattle.channel.proofs.Channel.is_sound.Goals as goal

pub returns-then-self-le-LAST : goal.returns-then-self-le-LAST
unfolding sound_channel
returns-then-self-le-LAST c = search tests

pub returns-else-self-le-LAST : goal.returns-else-self-le-LAST
unfolding sound_channel
returns-else-self-le-LAST c = let n = lt-leb _ _ c.if-self-le-LAST.false in n ∙ and_no _ n
