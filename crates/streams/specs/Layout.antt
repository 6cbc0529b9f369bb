-- How a stream frame is stored: 25 bytes, from document 01's body of the event 07 (LICH index 1, part 5, number 2, end 1 (0 is not the end), data 16; numbers high
-- byte first). What the payload of a port 2 data frame stands for is `stream_of` of crate kiss_stream. Assumes nothing.
use Rattle.std.specs.Prelude.{ℕ, ◌+◌, ◌*◌, Bool, true, false, not, List, ◌∷◌, ◌++◌, eqb, get_or}
use Rattle.crc.specs.Crc.{two_bytes}
use Rattle.protocol.specs.declared.StreamFrame.{StreamFrame}
use Rattle.protocol.specs.Lsf.{part}

-- how many bytes a frame takes
abbrev pub FRAME : ℕ
FRAME = 25

abbrev pub end_byte : Bool → ℕ
end_byte true = 1
end_byte false = 0

unfoldable pub bytes_of : StreamFrame → List ℕ
bytes_of f = f.lich_idx ∷ (f.lich_part ++ (two_bytes f.frame_number ++ (end_byte f.end_of_stream ∷ f.stream_data)))

-- the frame that such bytes stand for. A saved store has any bytes: every byte but 0 marks the end, and the number is its two bytes as they stand
unfoldable pub frame_of : List ℕ → StreamFrame
frame_of b =
    record {
      lich_idx = get_or b 0 0;
      lich_part = part 1 5 b;
      frame_number = get_or b 6 0 * 256 + get_or b 7 0;
      end_of_stream = not (eqb (get_or b 8 0) 0);
      stream_data = part 9 16 b;
    }
