-- An answer to a read for the modulator that leaves state, queues and channel as they are given, from document 01 under "To the modulator". Assumes nothing.
use Rattle.std.specs.Prelude.{Result, Option}
use Rattle.channel.specs.declared.Channel.{Channel}
use Rattle.state.specs.declared.State.{State}
use Rattle.room.specs.declared.LentError.{LentError}
use Rattle.protocol.specs.declared.ModulatorFrame.{ModulatorFrame}
use Rattle.sending.specs.declared.Sending.{Sending}
use Rattle.tx_frame.specs.declared.TxRead.{TxRead}

abbrev pub unfilled : Result (Option ModulatorFrame) LentError → State → Sending → Channel → TxRead
unfilled answer state sending channel = record { answer = answer; state = state; sending = sending; channel = channel }
