-- What the host's settings change, from document 01's "From the host". Assumes nothing.
use Rattle.std.specs.Prelude.{ℕ, not, List, eqb, get_or, replicate, Result, Option, Err, None, Ok, Some}
use Rattle.choice.specs.Pick.{pick}
use Rattle.kiss_layout.specs.declared.KissError.{KissError}
use Rattle.kiss_layout.specs.Read.{decoded}
use Rattle.channel.specs.declared.Channel.{Channel}
use Rattle.channel.specs.Access.{duplex_set}
use Rattle.host_record.specs.declared.Host.{Host}

abbrev pub with_delay : Host → ℕ → Host
with_delay h units = record { sending = record { packets = h.sending.packets; streams = h.sending.streams; tx_delay = units }; channel = h.channel }

abbrev pub with_channel : Host → Channel → Host
with_channel h c = record { sending = h.sending; channel = c }

-- ---- settings: the first payload byte; an empty one is ignored

unfoldable pub setting_from : Result ℕ KissError → List ℕ → Option ℕ
setting_from (Err e) room = None
setting_from (Ok n) room = pick (eqb n 0) None (Some (get_or room 0 0))

unfoldable pub setting_in : List ℕ → Option ℕ
setting_in frame = setting_from (decoded frame (replicate 1 0)).0 (decoded frame (replicate 1 0)).1

abbrev pub delay_set : Option ℕ → Host → Host
delay_set None h = h
delay_set (Some byte) h = with_delay h byte

-- any byte but 0 is on
abbrev pub duplex_of : Option ℕ → Host → Host
duplex_of None h = h
duplex_of (Some byte) h = with_channel h (duplex_set h.channel (not (eqb byte 0))).channel
