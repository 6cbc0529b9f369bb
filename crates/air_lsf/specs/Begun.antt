-- What the TNC does with an LSF from the air, from document 01's "From the air". Assumes nothing.
use Rattle.std.specs.Prelude.{ℕ, List}
use Rattle.room.specs.Room.{over}
use Rattle.protocol.specs.Lsf.{field_of, mode_bits}
use Rattle.protocol.specs.Kinds.{mode_of}
use Rattle.protocol.specs.declared.lsf.Mode.{Mode}
use Rattle.protocol.specs.declared.lsf.Mode.TheVariants.{Packet, Stream}
use Rattle.kiss_layout.specs.Build.{stream_setup}
use Rattle.state.specs.declared.State.TheVariants.{RxStream, RxPacket}
use Rattle.radio.specs.declared.Radio.{Radio}
use Rattle.radio.specs.declared.Heard.{Heard}
use Rattle.radio.specs.Radio.{turned, to_host, unless_sending}

-- a packet begins: its LSF is kept, no frame of it has come, and a message that waits goes on waiting
abbrev pub packet_begun : Radio → List ℕ → List ℕ → Heard × List ℕ
packet_begun r lsf rx = (turned (RxPacket 0) r, over lsf rx)

-- a stream begins: its LSF goes to the host, and any number may come first
abbrev pub stream_begun : List ℕ → List ℕ → Heard × List ℕ
stream_begun lsf out = to_host (RxStream 0) (stream_setup lsf) out

-- an LSF clears what went before; its CRC is not looked at
abbrev pub begun : Mode → Radio → List ℕ → List ℕ → List ℕ → Heard × List ℕ × List ℕ
begun Packet r lsf rx out = ((packet_begun r lsf rx).0, (packet_begun r lsf rx).1, out)
begun Stream r lsf rx out = ((stream_begun lsf out).0, rx, (stream_begun lsf out).1)

unfoldable pub lsf_heard : Radio → List ℕ → List ℕ → List ℕ → Heard × List ℕ × List ℕ
lsf_heard r lsf rx out = unless_sending r rx out (begun (mode_of (field_of mode_bits lsf)) r lsf rx out)
