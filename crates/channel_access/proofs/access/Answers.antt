-- `channel_access::access` meets its contract. Assumes nothing.
use Rattle.choice.specs.Pick.{callees}
use Rattle.channel.specs.Access.{accessed}
use Rattle.channel_access.proofs.access.Goals as goal

pub returns-then-not-is_sound : goal.returns-then-not-is_sound
unfolding accessed
returns-then-not-is_sound c = search callees depth 12

pub returns-then-channel : goal.returns-then-channel
unfolding accessed
returns-then-channel c = search callees depth 12

pub returns-then-channel-2 : goal.returns-then-channel-2
unfolding accessed
returns-then-channel-2 c = search callees depth 12

pub returns-then-channel-3 : goal.returns-then-channel-3
unfolding accessed
returns-then-channel-3 c = search callees depth 12

pub returns : goal.returns
unfolding accessed
returns c = search callees depth 12
