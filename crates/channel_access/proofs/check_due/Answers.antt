-- `channel_access::check_due` meets its contract. Assumes nothing.
use Rattle.choice.specs.Pick.{tests}
use Rattle.channel.specs.Access.{check_due}
use Rattle.channel_access.proofs.check_due.Goals as goal
use Rattle.channel_access.proofs.check_due.Goals.{then-channel-2-via-then-channel-2, then-channel-2-via-else-channel-2+then-channel-ne3}

pub returns-then-channel : goal.returns-then-channel
unfolding check_due
returns-then-channel c = search tests

pub returns-then-channel-2 : goal.returns-then-channel-2
unfolding check_due
returns-then-channel-2 c = elim c.then-channel-2.branch [ then-channel-2-via-then-channel-2 w ↦ search tests | then-channel-2-via-else-channel-2+then-channel-ne3 w ↦ search tests ]

pub returns : goal.returns
unfolding check_due
returns c = search tests
