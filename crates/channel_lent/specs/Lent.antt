-- A setter on a lent channel record, as its answer and the record that it leaves, from document 01 under "Channel access": "one small record lent by the caller and updated there". Assumes nothing.
use Rattle.channel.specs.declared.Channel.{Channel}
use Rattle.std.specs.Prelude.{Result}
use Rattle.channel.specs.declared.ChannelError.{ChannelError}
use Rattle.channel.specs.declared.ChannelSet.{ChannelSet}

abbrev pub set_by : ChannelSet → Result (Unit {0}) ChannelError × Channel
set_by s = (s.answer, s.channel)
