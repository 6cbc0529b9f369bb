-- `channel::Channel::set_full_duplex` meets its contract. Assumes nothing.
use Rattle.channel.specs.Access.{duplex_set}
use Rattle.channel.proofs.Channel.set_full_duplex.Goals as goal

pub returns : goal.returns
unfolding duplex_set
returns c = c.set_to.ensures
