-- A packet and the frames that it goes out as: its LSF, 25 bytes each with an index from 0 on, the rest as the final frame. From document 01's "A packet frame
-- has 25 bytes and a counter: either an index or, in the last frame, a payload length" and its examples of 26 and 825 bytes. Assumes nothing.
use Rattle.std.specs.Prelude.{ℕ, zero, suc, ◌+◌, ◌/◌, List, [], ◌∷◌, ◌++◌, leb, length, take, drop, replicate}
use Rattle.choice.specs.Pick.{pick}
use Rattle.room.specs.Room.{over}
use Rattle.protocol.specs.declared.PacketFrame.{PacketFrame}
use Rattle.protocol.specs.declared.PacketFrameCounter.{PacketFrameCounter}
use Rattle.protocol.specs.declared.PacketFrameCounter.TheVariants.{Frame, FinalFrame}

pub record Packet : Type 0 where
  pub lsf : List ℕ
  pub body : List ℕ

-- what the modulator is given of a packet
pub data AirFrame : Type 0 where
  setup : (lsf : List ℕ) → AirFrame
  piece : PacketFrame → AirFrame

unfoldable pub zeros : ℕ → List ℕ
zeros n = replicate n 0

-- bytes at the front of n, and zeros behind them
unfoldable pub padded : ℕ → List ℕ → List ℕ
padded n bytes = over bytes (zeros n)

-- the first frame of the data d, where its index is i
unfoldable pub chunk : ℕ → List ℕ → PacketFrame
chunk i d =
    pick (leb (length d) 25)
    (record { payload = padded 25 d; counter = FinalFrame (length d) })
    (record { payload = take 25 d; counter = Frame i })

unfoldable pub chunks : ℕ → ℕ → List ℕ → List AirFrame
chunks zero i d = []
chunks (suc n) i d = piece (chunk i d) ∷ chunks n (suc i) (drop 25 d)

-- the frames of the data d from index i on: one for each 25 bytes begun
unfoldable pub data_frames : ℕ → List ℕ → List AirFrame
data_frames i d = chunks ((length d + 24) / 25) i d

unfoldable pub frames_of : Packet → List AirFrame
frames_of p = setup p.lsf ∷ data_frames 0 p.body

-- the frames of packets, one packet after the other
unfoldable pub joined : List Packet → List AirFrame
joined [] = []
joined (p ∷ ps) = frames_of p ++ joined ps

-- ---- the way back

-- how many bytes of a frame count
abbrev pub counted : PacketFrameCounter → ℕ
counted (Frame i) = 25
counted (FinalFrame n) = n

unfoldable pub carried_lsf : List AirFrame → List ℕ
carried_lsf [] = []
carried_lsf (setup lsf ∷ fs) = lsf ++ carried_lsf fs
carried_lsf (piece f ∷ fs) = carried_lsf fs

unfoldable pub carried_body : List AirFrame → List ℕ
carried_body [] = []
carried_body (setup lsf ∷ fs) = carried_body fs
carried_body (piece f ∷ fs) = take (counted f.counter) f.payload ++ carried_body fs

-- frames joined again
abbrev pub rejoin : List AirFrame → Packet
rejoin fs = record { lsf = carried_lsf fs; body = carried_body fs }
