-- What the host can change, and the lengths of its stores, from document 01's "Answer numbers" and "Bounds for 8". Assumes nothing.
use Rattle.std.specs.Prelude.{ℕ, Bool, eqb}
use Rattle.choice.specs.Pick.{and}
use Rattle.channel.specs.Access.{new_channel, sound_channel}
use Rattle.packets.specs.Queue.{STORE as PACKETS}
use Rattle.streams.specs.Queue.{STORE as STREAMS}
use Rattle.sending.specs.Sending.{new_sending, sound_sending}
use Rattle.host_record.specs.declared.Host.{Host}

abbrev pub new_host : Host
new_host = record { sending = new_sending; channel = new_channel }

unfoldable pub sound_host : Host → Bool
sound_host h = and (sound_sending h.sending) (sound_channel h.channel)

-- the packets' and the streams' store have their lengths
unfoldable pub stores_fit : ℕ → ℕ → Bool
stores_fit packets streams = and (eqb packets PACKETS) (eqb streams STREAMS)
