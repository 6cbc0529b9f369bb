-- What waits to be sent: both queues and the TxDelay, from document 01 under "To the modulator" and "Bounds for 8". Assumes nothing.
use Rattle.std.specs.Prelude.{Bool, true, not}
use Rattle.choice.specs.Pick.{pick, and}
use Rattle.packets.specs.Queue.{new_queue as no_packets, sound_queue as sound_packets, is_empty}
use Rattle.streams.specs.Queue.{new_queue as no_streams, sound_queue as sound_streams}
use Rattle.sending.specs.declared.Sending.{Sending}

abbrev pub new_sending : Sending
new_sending = record { packets = no_packets; streams = no_streams; tx_delay = 0 }

-- each queue is within its bounds; any TxDelay is
unfoldable pub sound_sending : Sending → Bool
sound_sending s = and (sound_packets s.packets) (sound_streams s.streams)

-- a stream's LSF waits, or a packet does
unfoldable pub wants_to_send : Sending → Bool
wants_to_send s = pick s.streams.pending true (not (is_empty s.packets))
