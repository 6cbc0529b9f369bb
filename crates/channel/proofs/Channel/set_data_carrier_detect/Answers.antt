-- `channel::Channel::set_data_carrier_detect` meets its contract. Assumes nothing.
use Rattle.channel.specs.Access.{carrier_set}
use Rattle.channel.proofs.Channel.set_data_carrier_detect.Goals as goal

pub returns : goal.returns
unfolding carrier_set
returns c = c.set_to.ensures
