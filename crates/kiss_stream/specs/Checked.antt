-- A port 2 data frame's content, made only where its fields are in range, from document 01's answer 6. Assumes nothing.
use Rattle.std.specs.Prelude.{ℕ, List, ltb, Option, Some, None}
use Rattle.choice.specs.Pick.{pick}
use Rattle.protocol.specs.declared.StreamFrame.{StreamFrame}
use Rattle.kiss_layout.specs.Stream.{stream_content}

-- a frame's content, where its LICH index is at most 5 and its number at most 32,767
unfoldable pub checked_content : StreamFrame → Option (List ℕ)
checked_content f = pick (ltb 5 f.lich_idx) None (pick (ltb 32767 f.frame_number) None (Some (stream_content f)))
