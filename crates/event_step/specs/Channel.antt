-- What the events of the channel make of what the TNC's call gave, from document 01's "Event program". Assumes nothing.
use Rattle.channel.specs.declared.ChannelSet.{ChannelSet}
use Rattle.channel.specs.Access.{set_number}
use Rattle.tnc_core.specs.declared.Tnc.{Tnc}
use Rattle.tnc_clock.specs.declared.Timed.{Timed}
use Rattle.event_answer.specs.declared.Applied.{Applied}
use Rattle.event_answer.specs.Answer.{answered}

abbrev pub of_set : Tnc → ChannelSet → Applied
of_set t q = answered (set_number q.answer) 0 t q.channel

abbrev pub of_timed : Timed → Applied
of_timed q = answered (set_number q.answer) 0 q.tnc q.channel
