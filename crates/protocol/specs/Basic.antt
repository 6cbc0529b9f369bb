-- The LSF of port 0, from the M17 protocol specification's address encoding and LSF layout: destination broadcast, source M17RT-PKT, packet mode, data. Assumes nothing.
use Rattle.std.specs.Prelude.{ℕ, zero, suc, ◌+◌, ◌-◌, ◌*◌, ◌/◌, ◌%◌, ◌^◌, List, [], ◌∷◌, ◌++◌, leb, eqb, replicate}
use Rattle.choice.specs.Pick.{pick, and}
use Rattle.crc.specs.Crc.{two_bytes, sealed}
use Rattle.protocol.specs.declared.lsf.Mode.TheVariants.{Packet}
use Rattle.protocol.specs.declared.lsf.DataType.TheVariants.{Data}
use Rattle.protocol.specs.Kinds.{mode_number, data_type_number}
use Rattle.protocol.specs.Lsf.{mode_bits, data_type_bits, with_bits_at}

-- the place of an ASCII character in the specification's alphabet of 40: space, A to Z, 0 to 9, and - / .
unfoldable pub digit40 : ℕ → ℕ
digit40 c =
    pick (and (leb 0x41 c) (leb c 0x5A)) (c - 0x41 + 1)
    (pick (and (leb 0x30 c) (leb c 0x39)) (c - 0x30 + 27)
    (pick (eqb c 0x2D) 37 (pick (eqb c 0x2F) 38 (pick (eqb c 0x2E) 39 0))))

-- a call sign as a number to the base 40, its first character the lowest digit
unfoldable pub call_number : List ℕ → ℕ
call_number [] = 0
call_number (c ∷ cs) = digit40 c + 40 * call_number cs

-- a number as n bytes, high byte first
unfoldable pub bytes_of : ℕ → ℕ → List ℕ
bytes_of zero x = []
bytes_of (suc n) x = bytes_of n (x / 256) ++ (x % 256 ∷ [])

abbrev pub broadcast : ℕ
broadcast = 2 ^ 48 - 1

-- M17RT-PKT
abbrev pub m17rt_pkt : List ℕ
m17rt_pkt = 0x4D ∷ 0x31 ∷ 0x37 ∷ 0x52 ∷ 0x54 ∷ 0x2D ∷ 0x50 ∷ 0x4B ∷ 0x54 ∷ []

unfoldable pub basic_type : ℕ
basic_type = with_bits_at mode_bits (mode_number Packet) (with_bits_at data_type_bits (data_type_number Data) 0)

unfoldable pub basic_lsf : List ℕ
basic_lsf = sealed (bytes_of 6 broadcast ++ bytes_of 6 (call_number m17rt_pkt) ++ two_bytes basic_type ++ replicate 14 0)
