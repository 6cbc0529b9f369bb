-- What the events of the host make of what the TNC's call gave, from document 01's "Event program". Assumes nothing.
use Rattle.std.specs.Prelude.{ℕ, List}
use Rattle.room.specs.Room.{over}
use Rattle.channel.specs.declared.Channel.{Channel}
use Rattle.kiss_calls.specs.Calls.{write_number}
use Rattle.outgoing.specs.Message.{read_count, host_number}
use Rattle.tnc.specs.declared.TncWritten.{TncWritten}
use Rattle.tnc_read.specs.declared.TncRead.{TncRead}
use Rattle.event_answer.specs.declared.Applied.{Applied}
use Rattle.event_answer.specs.Answer.{answered}

abbrev pub of_write : TncWritten × List ℕ × List ℕ × List ℕ → Applied × List ℕ × List ℕ × List ℕ
of_write q = (answered (write_number q.0.answer) 0 q.0.tnc q.0.channel, q.1, q.2, q.3)

abbrev pub of_read : Channel → TncRead × List ℕ → List ℕ → Applied × List ℕ
of_read c q room = (answered (host_number q.0.answer) (read_count q.0.answer) q.0.tnc c, over q.1 room)
