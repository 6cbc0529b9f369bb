-- The body of event 06, from document 01's "Event program": 25 bytes, then a byte: below 128 index, else final length + 128. The body of 07 is `bytes_of` and `frame_of`
-- of crate streams. Assumes nothing.
use Rattle.std.specs.Prelude.{ℕ, ◌+◌, ◌-◌, ◌%◌, List, [], ◌∷◌, ◌++◌, ltb, get_or}
use Rattle.choice.specs.Pick.{pick}
use Rattle.protocol.specs.declared.PacketFrame.{PacketFrame}
use Rattle.protocol.specs.declared.PacketFrameCounter.{PacketFrameCounter}
use Rattle.protocol.specs.declared.PacketFrameCounter.TheVariants.{Frame, FinalFrame}
use Rattle.protocol.specs.Lsf.{part}

-- how many bytes such a body has, and what marks the last frame
abbrev pub PACKET : ℕ
PACKET = 26

abbrev pub FINAL : ℕ
FINAL = 128

unfoldable pub counter_of : ℕ → PacketFrameCounter
counter_of b = pick (ltb b FINAL) (Frame b) (FinalFrame (b - FINAL))

unfoldable pub packet_of : List ℕ → PacketFrame
packet_of b = record { payload = part 0 25 b; counter = counter_of (get_or b 25 0) }

-- an index or a length below 128 stands as it is
unfoldable pub counter_byte : PacketFrameCounter → ℕ
counter_byte (Frame i) = i % FINAL
counter_byte (FinalFrame n) = FINAL + n % FINAL

unfoldable pub packet_body : PacketFrame → List ℕ
packet_body f = f.payload ++ (counter_byte f.counter ∷ [])
