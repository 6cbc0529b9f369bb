-- A packet's data cut into frames, from document 01's "A packet frame has 25 bytes and a counter" and its example of 26 bytes.
-- Each fact rules out the wrong answer that it is named after. Assumes nothing.
use Rattle.std.specs.Prelude.{ℕ, ◌≡◌, replicate}
use Rattle.protocol.specs.declared.PacketFrameCounter.TheVariants.{Frame, FinalFrame}
use Rattle.packets.specs.Frames.{chunk}

pub record Cut : Type 0 where
  -- 25 bytes fit into the last frame, 26 do not
  pub final_of_24 : (index byte : ℕ) → ((chunk index (replicate 25 byte)).counter ≡ FinalFrame 25) × ((chunk index (replicate 26 byte)).counter ≡ Frame index)
  -- of 26 bytes the first 25 have the index 0
  pub index_one_off : (byte : ℕ) → (chunk 0 (replicate 26 byte)).counter ≡ Frame 0
