-- What is promised of the layout of a packet frame, from document 01. Each is proved in proofs/Kept.antt. Assumes nothing.
use Rattle.std.specs.Prelude.{◌<◌, ◌≡◌, length}
use Rattle.protocol.specs.declared.PacketFrame.{PacketFrame}
use Rattle.protocol.specs.declared.PacketFrameCounter.{PacketFrameCounter}
use Rattle.protocol.specs.declared.PacketFrameCounter.TheVariants.{Frame, FinalFrame}
use Rattle.event_packet.specs.Packet.{PACKET, FINAL, packet_of, packet_body}

-- a frame as the code holds it has 25 bytes: where its index or final length has a place in seven bits, what was laid out reads back as the frame
abbrev pub InSeven : PacketFrameCounter → Type 0
InSeven (Frame i) = i < FINAL
InSeven (FinalFrame n) = n < FINAL

abbrev pub PacketRoundTrip : Type 0
PacketRoundTrip = (f : PacketFrame) → length f.payload ≡ 25 → InSeven f.counter → (length (packet_body f) ≡ PACKET) × (packet_of (packet_body f) ≡ f)
