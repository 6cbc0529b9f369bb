-- Proved: what the CRC and the definitions of framing say at their edges, by computation. Assumes nothing.
use mathlib.Core.Path.{refl}
use Rattle.choice.specs.Pick.{pick, and}
use Rattle.crc.specs.Crc.{shift_bit, shift_byte, crc_byte, crc_from, crc_of, sealed}
use Rattle.blocks.specs.Block.{loaded, stored, without}
use Rattle.room.specs.Room.{shifted}
use Rattle.kiss_layout.specs.Escape.{esc_byte, esc, escaped}
use Rattle.kiss_layout.specs.Unescape.{codes, lay, unescaped}
use Rattle.kiss_layout.specs.Frame.{frame, put_frame}
use Rattle.kiss_layout.specs.Scan.{stretch, after_fends, run_of}
use Rattle.kiss_layout.specs.Stream.{numbered_data, stream_content}
use Rattle.kiss_stream.specs.Checked.{checked_content}
use Rattle.kiss_reader.specs.Reader.{from_fend, settle, front}
use Rattle.kiss_reader.specs.Front.{stands_first}
use Rattle.kiss_calls.specs.Calls.{sound_buffer, frame_in}
use Rattle.edges.specs.Framing.{Crc, Blocks, Stores, Escaping, Frames, Reader}

pub crc : Crc
unfolding crc_of crc_from crc_byte shift_byte shift_bit
crc = record { low_byte_looked_up = refl; odd_byte_forgotten = refl; wrong_entry = refl }

pub blocks : Blocks
unfolding loaded stored without pick
blocks = record { load_past_the_end = λ b. (refl, refl); store_rest_cleared = λ a b c. refl; without_where_found = λ s. (refl, refl) }

pub stores : Stores
unfolding shifted and pick
stores = record { moved_by_one_left = λ a b c. refl }

pub escaping : Escaping
unfolding escaped esc esc_byte unescaped codes lay pick
escaping = record { uncounted_in_too_little_room = λ r. refl; block_past_the_room = λ r. refl; lone_fesc_counted = λ r. refl }

pub frames : Frames
unfolding checked_content stream_content numbered_data sealed crc_of crc_from crc_byte shift_byte shift_bit put_frame frame esc esc_byte pick
frames =
    record {
      end_not_marked = λ p s. (refl, refl);
      stream_crc_turned = λ p. refl;
      stream_index_low = λ p s. refl;
      frame_uncounted_in_too_little_room = λ h a b c d. (refl, refl);
    }

pub reader : Reader
unfolding run_of settle from_fend after_fends front stretch frame_in sound_buffer stands_first and pick
reader =
    record {
      block_passed_by_one_more = λ s. refl;
      block_past_the_end = refl;
      holds_three_bytes = (refl, λ s. refl);
      longer_store_taken = (refl, refl);
    }
