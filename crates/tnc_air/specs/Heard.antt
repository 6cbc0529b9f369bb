-- What the TNC does with a packet frame from the air, from document 01's "From the air" and "Answer numbers". Assumes nothing.
use Rattle.std.specs.Prelude.{ℕ, ◌+◌, ◌*◌, List, ltb, take, Err}
use Rattle.choice.specs.Pick.{pick}
use Rattle.room.specs.Room.{placed}
use Rattle.protocol.specs.Lsf.{part}
use Rattle.protocol.specs.declared.PacketFrame.{PacketFrame}
use Rattle.protocol.specs.declared.PacketFrameCounter.{PacketFrameCounter}
use Rattle.protocol.specs.declared.PacketFrameCounter.TheVariants.{Frame as Counted, FinalFrame as Final}
use Rattle.kiss_layout.specs.Build.{full_packet}
use Rattle.state.specs.declared.State.TheVariants.{Idle}
use Rattle.state.specs.declared.Reception.{Reception}
use Rattle.state.specs.declared.Reception.TheVariants.{Nothing, Acquiring as Segments, Stream as InStream, Packet as InPacket}
use Rattle.state.specs.State.{reception_of}
use Rattle.radio.specs.declared.Radio.{Radio}
use Rattle.radio.specs.declared.AirError.TheVariants.{OutOfRange as TooLarge}
use Rattle.radio.specs.declared.Heard.{Heard}
use Rattle.radio.specs.Radio.{answered, to_host, unless_sending}
use Rattle.tnc_air.specs.Collected.{idle, place_of, collected_after}

-- outside of a packet's reception it goes to Idle
abbrev pub collected_in : Reception → Radio → ℕ → List ℕ → List ℕ → Heard × List ℕ
collected_in Nothing r index payload rx = (idle r, rx)
collected_in (Segments mask) r index payload rx = (idle r, rx)
collected_in (InStream expected) r index payload rx = (idle r, rx)
collected_in (InPacket count) r index payload rx = collected_after r count index payload rx

abbrev pub collected : Radio → ℕ → List ℕ → List ℕ → Heard × List ℕ
collected r index payload rx = collected_in (reception_of r.state) r index payload rx

-- the store once the first bytes of a last frame stand in it
abbrev pub completed : ℕ → ℕ → List ℕ → List ℕ → List ℕ
completed count len payload rx = placed (take len payload) rx (place_of count)

-- a packet of so many bytes goes to the host behind its LSF, and the radio is idle
abbrev pub packet_told : ℕ → List ℕ → List ℕ → Heard × List ℕ
packet_told len rx out = to_host Idle (full_packet (part 0 30 rx) (part 30 len rx)) out

unfoldable pub finished_after : ℕ → ℕ → List ℕ → List ℕ → List ℕ → Heard × List ℕ × List ℕ
finished_after count len payload rx out =
    let whole = completed count len payload rx in let told = packet_told (25 * count + len) whole out in (told.0, whole, told.1)

abbrev pub finished_in : Reception → Radio → ℕ → List ℕ → List ℕ → List ℕ → Heard × List ℕ × List ℕ
finished_in Nothing r len payload rx out = (idle r, rx, out)
finished_in (Segments mask) r len payload rx out = (idle r, rx, out)
finished_in (InStream expected) r len payload rx out = (idle r, rx, out)
finished_in (InPacket count) r len payload rx out = finished_after count len payload rx out

-- a final length over 25 is 6, in every state that hears
unfoldable pub finished : Radio → ℕ → List ℕ → List ℕ → List ℕ → Heard × List ℕ × List ℕ
finished r len payload rx out = pick (ltb 25 len) (answered (Err TooLarge) r, rx, out) (finished_in (reception_of r.state) r len payload rx out)

abbrev pub counted : PacketFrameCounter → Radio → List ℕ → List ℕ → List ℕ → Heard × List ℕ × List ℕ
counted (Counted index) r payload rx out = ((collected r index payload rx).0, (collected r index payload rx).1, out)
counted (Final len) r payload rx out = finished r len payload rx out

-- unless PTT is on
unfoldable pub packet_heard : Radio → PacketFrame → List ℕ → List ℕ → Heard × List ℕ × List ℕ
packet_heard r frame rx out = unless_sending r rx out (counted frame.counter r frame.payload rx out)
