-- `channel::Channel::set_to` meets its contract. Assumes nothing.
use Rattle.choice.specs.Pick.{callees}
use Rattle.channel.proofs.Channel.set_to.Goals as goal

pub returns-then-not-is_sound : goal.returns-then-not-is_sound
returns-then-not-is_sound c = search callees

pub returns : goal.returns
returns c = search callees
