-- What the fields of the LSF, their setters and the LICH collection say at their edges, from document 01's "LSF, LICH, frames" and the M17 specification's LSF type.
-- Each fact rules out the wrong answer that it is named after. Assumes nothing.
use Rattle.std.specs.Prelude.{ℕ, ◌≡◌, List, [], ◌∷◌, ◌++◌, take, drop, replicate}
use Rattle.lsf_layout.specs.Bits.{mode_bits, data_type_bits, encryption_bits, channel_bits}
use Rattle.lsf_layout.specs.Lsf.{field_of}
use Rattle.protocol.specs.declared.lsf.Mode.TheVariants.{Packet}
use Rattle.protocol.specs.declared.lsf.DataType.TheVariants.{Reserved, Data, Voice}
use Rattle.protocol.specs.declared.lsf.EncryptionType.TheVariants.{None, Aes, Other}
use Rattle.protocol.specs.Kinds.{mode_number, mode_of, data_type_number, data_type_of, encryption_number, encryption_of}
use Rattle.lsf_setters.specs.Lsf.{with_field}
use Rattle.lich.specs.Lich.{segment_set}

-- a frame whose type, bytes 12 and 13, is that low byte under a high byte 0, with the bytes s behind it
abbrev pub typed : ℕ → List ℕ → List ℕ
typed low s = replicate 12 0 ++ (0 ∷ low ∷ s)

-- the bytes of a frame's type, high byte first
abbrev pub type_bytes : List ℕ → List ℕ
type_bytes f = take 2 (drop 12 f)

pub record Fields : Type 0 where
  -- type bit 0 is stream mode, bit 1 is not
  pub mode_two_bits : (s : List ℕ) → mode_of (field_of mode_bits (typed 0x02 s)) ≡ Packet
  -- encryption 2 is AES, 3 is other
  pub kinds_swapped : (encryption_of 2 ≡ Aes) × (encryption_of 3 ≡ Other)
  -- type bits 1-2 are the data type, bit 2 among them
  pub data_type_one_bit : (s : List ℕ) → data_type_of (field_of data_type_bits (typed 0x04 s)) ≡ Voice
  -- and bit 1 is the lower of them
  pub data_type_one_bit_up : (s : List ℕ) → data_type_of (field_of data_type_bits (typed 0x02 s)) ≡ Data
  -- type bits 3-4 are the encryption, bit 5 is not
  pub encryption_read_three_bits : (s : List ℕ) → encryption_of (field_of encryption_bits (typed 0x20 s)) ≡ None
  -- type bits 7-10 are the channel access number, bit 6 is not
  pub channel_read_one_bit_down : (s : List ℕ) → (field_of channel_bits (typed 0x40 s) ≡ 0) × (field_of channel_bits (typed 0x80 s) ≡ 1)

pub record Setters : Type 0 where
  -- number 1 is type bit 7
  pub channel_set_as_half : (s : List ℕ) → type_bytes (with_field channel_bits 1 (typed 0 s)) ≡ 0 ∷ 0x80 ∷ []
  -- data type 0 leaves type bit 3
  pub data_type_clears_bit_3 : (s : List ℕ) → type_bytes (with_field data_type_bits (data_type_number Reserved) (typed 0x08 s)) ≡ 0 ∷ 0x08 ∷ []
  -- encryption 0 leaves type bit 5
  pub encryption_clears_bit_5 : (s : List ℕ) → type_bytes (with_field encryption_bits (encryption_number None) (typed 0x20 s)) ≡ 0 ∷ 0x20 ∷ []
  -- packet mode leaves type bit 1
  pub mode_clears_bit_1 : (s : List ℕ) → type_bytes (with_field mode_bits (mode_number Packet) (typed 0x02 s)) ≡ 0 ∷ 0x02 ∷ []

pub record Lich : Type 0 where
  -- segment 0 is the mask's lowest bit
  pub mask_bit_one_off : (f p : List ℕ) → (segment_set (record { segments = f; mask = 0 }) 0 p).collection.mask ≡ 1
  -- segments of five bytes: segment 1 is bytes 5 to 9
  pub segment_one_byte_off :
      (r a b c d e : ℕ) → (segment_set (record { segments = replicate 30 r; mask = 0 }) 1 (a ∷ b ∷ c ∷ d ∷ e ∷ [])).collection.segments
      ≡ replicate 5 r ++ (a ∷ b ∷ c ∷ d ∷ e ∷ replicate 20 r)
