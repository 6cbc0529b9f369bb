-- What the queues of stream frames and of packets say at the edges of document 01's "LSF, LICH, frames", "From the host" and "To the modulator".
-- Each fact rules out the wrong answer that it is named after. Assumes nothing.
use Rattle.std.specs.Prelude.{true, false, [], ◌∷◌, ◌++◌, ◌≡◌, take, drop, replicate, Ok, None}
use Rattle.kiss_layout.specs.Stream.{stream_of}
use Rattle.streams.specs.Layout.{bytes_of}
use Rattle.streams.specs.Queue.{read_next}
use Rattle.packets.specs.Queue.{new_queue, pushed_basic}

pub record Streams : Type 0 where
  -- a stream transmission answers nothing while its queue is empty, even where an LSF waits, which goes on waiting
  pub lsf_while_empty : ((read_next (record { next = 0; curr = 0; full = false; pending = true }) (replicate 230 0)).answer ≡ Ok None)
      × ((read_next (record { next = 0; curr = 0; full = false; pending = true }) (replicate 230 0)).queue ≡ record { next = 0; curr = 0; full = false; pending = true })
  -- of two frames that wait the first is read, and the second is the next
  pub every_other_frame : (read_next (record { next = 2; curr = 0; full = false; pending = false }) (replicate 230 0)).queue ≡ record { next = 2; curr = 1; full = false; pending = false }
  -- the top bit of the number's first byte marks the end: it is stored as the end, and the number is 0
  pub number_keeps_the_end : bytes_of (stream_of (replicate 6 0 ++ (0x80 ∷ replicate 23 0))) ≡ replicate 6 0 ++ (0 ∷ 0 ∷ 1 ∷ replicate 16 0)

pub record Packets : Type 0 where
  -- a port 0 packet, here of no content, has the type byte 00 behind its LSF, then the CRC of that byte
  pub type_byte_01 : take 3 (drop 30 (pushed_basic new_queue (0xC0 ∷ 0x00 ∷ 0xC0 ∷ []) (replicate 3420 0xEE)).1) ≡ 0x00 ∷ 0x4C ∷ 0x14 ∷ []
