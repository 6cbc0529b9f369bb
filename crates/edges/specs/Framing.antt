-- What the CRC and the definitions of framing say at their edges, from the M17 specification's CRC vectors and from document 01's "KISS bytes", "The reader's meaning", "LSF, LICH, frames" and answer 7.
-- Each fact rules out the wrong answer that it is named after. Assumes nothing.
use Rattle.std.specs.Prelude.{ℕ, Bool, true, false, ◌≡◌, List, [], ◌∷◌, ◌++◌, drop, get_or, replicate, Ok, Err, Option, None, Some}
use Rattle.crc.specs.Crc.{crc_of}
use Rattle.blocks.specs.Block.{loaded, stored, without}
use Rattle.kiss_layout.specs.declared.BuildError.TheVariants.{NoRoom as NoFrame}
use Rattle.room.specs.Room.{shifted, no_room}
use Rattle.protocol.specs.declared.StreamFrame.{StreamFrame}
use Rattle.kiss_layout.specs.Escape.{escaped}
use Rattle.kiss_layout.specs.Unescape.{unescaped}
use Rattle.kiss_layout.specs.Frame.{frame, put_frame}
use Rattle.kiss_layout.specs.Scan.{not_fend, run_of}
use Rattle.kiss_stream.specs.Checked.{checked_content}
use Rattle.kiss_reader.specs.Reader.{settle, front, is_some}
use Rattle.kiss_calls.specs.Calls.{frame_in}

pub record Crc : Type 0 where
  -- high bit first: the register's high byte meets the next byte
  pub low_byte_looked_up : crc_of (0x31 ∷ 0x32 ∷ 0x33 ∷ 0x34 ∷ 0x35 ∷ 0x36 ∷ 0x37 ∷ 0x38 ∷ 0x39 ∷ []) ≡ 0x772B
  -- a byte without a second one counts too
  pub odd_byte_forgotten : crc_of (0x41 ∷ []) ≡ 0x206E
  -- polynomial 0x5935: start 0xFFFF and FE leave 01 at the top, which takes it in once
  pub wrong_entry : crc_of (0xFE ∷ []) ≡ 0xA635

pub record Blocks : Type 0 where
  -- of fifteen bytes no block is read, of sixteen it is
  pub load_past_the_end : (b : ℕ) → (loaded (replicate 15 b) 0 ≡ replicate 16 0) × (loaded (replicate 16 b) 0 ≡ replicate 16 b)
  -- what lies before and beyond the block stays
  pub store_rest_cleared : (a b c : ℕ) → stored (replicate 16 b) (a ∷ (replicate 16 a ++ (c ∷ []))) 1 ≡ a ∷ (replicate 16 b ++ (c ∷ []))
  -- a list in which the byte stands is not without it
  pub without_where_found : (s : List ℕ) → (without 0xC0 (0xC0 ∷ s) ≡ false) × (without 0xC0 (0x41 ∷ 0xC0 ∷ s) ≡ false)

pub record Stores : Type 0 where
  -- bytes from place 1 on go to the start
  pub moved_by_one_left : (a b c : ℕ) → shifted (a ∷ b ∷ c ∷ []) 1 2 ≡ ((Ok tt), b ∷ b ∷ c ∷ [])

pub record Escaping : Type 0 where
  -- C0 is two bytes escaped: a room of one is left as it is
  pub uncounted_in_too_little_room : (r : ℕ) → escaped (0xC0 ∷ []) (r ∷ []) ≡ ((Err no_room), r ∷ [])
  -- unescaping stops when the room ends; what does not fit is cut off
  pub block_past_the_room : (r : ℕ) → unescaped (replicate 16 0x41) (replicate 15 r) ≡ (15, replicate 15 0x41)
  -- a FESC as last byte gives nothing
  pub lone_fesc_counted : (r : ℕ) → unescaped (0xDB ∷ []) (r ∷ []) ≡ (0, r ∷ [])

-- a stream frame with a LICH part of five bytes
abbrev pub stream_frame : ℕ → ℕ → Bool → ℕ → List ℕ → StreamFrame
stream_frame index number last p bytes =
    record { lich_idx = index; lich_part = p ∷ p ∷ p ∷ p ∷ p ∷ []; frame_number = number; end_of_stream = last; stream_data = bytes }

-- a content, or as many zeros where there is none
abbrev pub bytes_of : Option (List ℕ) → List ℕ
bytes_of None = replicate 26 0
bytes_of (Some content) = content

abbrev pub content_of : StreamFrame → List ℕ
content_of frame = bytes_of (checked_content frame)

pub record Frames : Type 0 where
  -- the top bit of the number's first byte marks the end
  pub end_not_marked :
      (p : ℕ) (s : List ℕ) → (get_or (content_of (stream_frame 0 0 true p s)) 6 0 ≡ 0x80) × (get_or (content_of (stream_frame 0 0 false p s)) 6 0 ≡ 0)
  -- the CRC over number and data, here of eighteen zeros, goes high byte first
  pub stream_crc_turned : (p : ℕ) → drop 24 (content_of (stream_frame 0 0 false p (replicate 16 0))) ≡ 0x46 ∷ 0x47 ∷ []
  -- index times 32
  pub stream_index_low : (p : ℕ) (s : List ℕ) → get_or (content_of (stream_frame 5 0 false p s)) 5 0 ≡ 0xA0
  -- one byte to escape makes a frame of five bytes: a room of four is left as it is
  pub frame_uncounted_in_too_little_room :
      (h a b c d : ℕ) → (put_frame (frame h (0xC0 ∷ [])) (a ∷ b ∷ c ∷ d ∷ []) ≡ (Err NoFrame, a ∷ b ∷ c ∷ d ∷ []))
      × (put_frame (frame h (0x41 ∷ [])) (a ∷ b ∷ c ∷ d ∷ []) ≡ (Ok 4, 0xC0 ∷ h ∷ 0x41 ∷ 0xC0 ∷ []))

pub record Reader : Type 0 where
  -- a FEND right behind sixteen other bytes is found there
  pub block_passed_by_one_more : (s : List ℕ) → run_of not_fend (replicate 16 0x41 ++ (0xC0 ∷ s)) ≡ 16
  -- a FEND as the last of fifteen bytes is found too
  pub block_past_the_end : run_of not_fend (replicate 14 0x41 ++ (0xC0 ∷ [])) ≡ 14
  -- a stretch that no FEND closes is no frame, one of one byte that a FEND closes is
  pub holds_three_bytes :
      (is_some (front (settle (0xC0 ∷ 0x41 ∷ []))) ≡ false) × ((s : List ℕ) → is_some (front (settle (0xC0 ∷ 0x41 ∷ 0xC0 ∷ s))) ≡ true)
  -- the store has 1,713 bytes: in one of 1,714 stands no frame
  pub longer_store_taken :
      (frame_in (record { filled = 3; taken = true }) (0xC0 ∷ 0x41 ∷ 0xC0 ∷ replicate 1710 0) ≡ 0xC0 ∷ 0x41 ∷ 0xC0 ∷ [])
      × (frame_in (record { filled = 3; taken = true }) (0xC0 ∷ 0x41 ∷ 0xC0 ∷ replicate 1711 0) ≡ [])
