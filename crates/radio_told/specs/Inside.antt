-- What `told` makes of a builder's answer. From no document: no promise rests on these. Assumes nothing.
use Rattle.std.specs.Prelude.{Result, ℕ, Ok, Err}
use Rattle.kiss_layout.specs.declared.BuildError.{BuildError}
use Rattle.outgoing.specs.declared.Outgoing.{Outgoing}
use Rattle.outgoing.specs.Message.{no_message}
use Rattle.state.specs.declared.State.{State}
use Rattle.radio.specs.declared.Heard.{Heard}
use Rattle.radio.specs.Radio.{answered}

-- the message that a builder's answer stands for
abbrev pub message_of : Result ℕ BuildError → Outgoing
message_of (Ok n) = record { len = n; read = 0 }
message_of (Err e) = no_message

abbrev pub told_of : State → Result ℕ BuildError → Heard
told_of s b = answered (Ok tt) (record { state = s; outgoing = message_of b })
