-- What the TNC does with a data frame from the host, from document 01's "From the host". Assumes nothing.
use Rattle.std.specs.Prelude.{ℕ, List, eqb}
use Rattle.choice.specs.Pick.{pick}
use Rattle.packets.specs.declared.PacketQueue.{PacketQueue}
use Rattle.packets.specs.Queue.{pushed_basic, pushed_full}
use Rattle.streams.specs.declared.StreamQueue.{StreamQueue}
use Rattle.streams.specs.Queue.{pushed}
use Rattle.host_record.specs.declared.Host.{Host}

abbrev pub with_packets : Host → PacketQueue → Host
with_packets h q = record { sending = record { packets = q; streams = h.sending.streams; tx_delay = h.sending.tx_delay }; channel = h.channel }

abbrev pub with_streams : Host → StreamQueue → Host
with_streams h q = record { sending = record { packets = h.sending.packets; streams = q; tx_delay = h.sending.tx_delay }; channel = h.channel }

-- ---- data: port 0 a basic packet, port 1 a whole one, port 2 a stream's

unfoldable pub data_taken : ℕ → Host → List ℕ → List ℕ → List ℕ → Host × List ℕ × List ℕ
data_taken port h frame packets streams =
    pick (eqb port 0)
    (with_packets h (pushed_basic h.sending.packets frame packets).0.queue, (pushed_basic h.sending.packets frame packets).1, streams)
    (pick (eqb port 1)
    (with_packets h (pushed_full h.sending.packets frame packets).0.queue, (pushed_full h.sending.packets frame packets).1, streams)
    (with_streams h (pushed h.sending.streams frame streams).0.queue, packets, (pushed h.sending.streams frame streams).1))
