-- What an event answers: its number, how many bytes it prints, PTT as after it, from document 01's "Event program". Assumes nothing.
use Rattle.std.specs.Prelude.{ℕ, Bool, false, Result, Ok, Err}
use Rattle.channel.specs.declared.Channel.{Channel}
use Rattle.tnc_core.specs.declared.Tnc.{Tnc}
use Rattle.room.specs.declared.LentError.{LentError}
use Rattle.tnc_core.specs.Tnc.{ptt_of}
use Rattle.event_answer.specs.declared.EventBox.{EventBox}
use Rattle.event_answer.specs.declared.Applied.{Applied}

-- the most bytes that an event prints
abbrev pub MOST : ℕ
MOST = 255

-- the most bytes of a line: 8, and two digits for each of those
abbrev pub LINE : ℕ
LINE = 518

-- PTT; a state out of bounds has none, and prints 0
abbrev pub on_flag : Result Bool LentError → Bool
on_flag (Ok on) = on
on_flag (Err e) = false

abbrev pub keyed : Tnc → Bool
keyed t = on_flag (ptt_of t)

abbrev pub answered : ℕ → ℕ → Tnc → Channel → Applied
answered n count t c = record { number = n; count = count; ptt = keyed t; after = record { tnc = t; channel = c } }

-- answer 9: nothing is changed
abbrev pub refused : EventBox → Applied
refused b = answered 9 0 b.tnc b.channel
