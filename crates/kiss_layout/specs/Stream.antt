-- The content of a port 2 data frame, from document 01 under "LSF, LICH, frames": LICH part 5, index times 32, number 2 (top bit of the first byte marks the end),
-- data 16, CRC 2 over number and data. Assumes nothing.
use Rattle.std.specs.Prelude.{ℕ, ◌+◌, ◌*◌, ◌/◌, ◌%◌, Bool, true, false, List, ◌∷◌, ◌++◌, leb, take, drop, get_or}
use Rattle.crc.specs.Crc.{sealed}
use Rattle.protocol.specs.declared.StreamFrame.{StreamFrame}

abbrev pub end_mark : Bool → ℕ
end_mark true = 0x80
end_mark false = 0

unfoldable pub numbered_data : StreamFrame → List ℕ
numbered_data f = (f.frame_number / 256 + end_mark f.end_of_stream) ∷ f.frame_number % 256 ∷ f.stream_data

unfoldable pub stream_content : StreamFrame → List ℕ
stream_content f = f.lich_part ++ f.lich_idx * 32 ∷ sealed (numbered_data f)

-- what a content stands for
unfoldable pub stream_of : List ℕ → StreamFrame
stream_of c =
    record {
      lich_idx = get_or c 5 0 / 32;
      lich_part = take 5 c;
      frame_number = get_or c 6 0 % 128 * 256 + get_or c 7 0;
      end_of_stream = leb 128 (get_or c 6 0);
      stream_data = take 16 (drop 8 c);
    }
