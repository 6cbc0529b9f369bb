-- What the events of the receiver make of what the TNC's call gave, from document 01's "Event program". Assumes nothing.
use Rattle.std.specs.Prelude.{ℕ, List}
use Rattle.channel.specs.declared.Channel.{Channel}
use Rattle.radio.specs.Radio.{air_number}
use Rattle.tnc_receive.specs.declared.TncHeard.{TncHeard}
use Rattle.event_answer.specs.declared.Applied.{Applied}
use Rattle.event_answer.specs.Answer.{answered}

abbrev pub of_heard : Channel → TncHeard × List ℕ × List ℕ → Applied × List ℕ × List ℕ
of_heard c q = (answered (air_number q.0.answer) 0 q.0.tnc c, q.1, q.2)
