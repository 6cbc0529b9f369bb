-- `crc::m17_crc` meets its contract. The invariant: the register, taken over the bytes that are left, comes to the CRC of all. Assumes nothing.
use Rattle.std.proofs.Common.{◌*◌, ◌<◌, ◌≡◌}
use lib.ListN.{drop}
use Rattle.crc.specs.Crc.{start, shift_byte, crc_from}
use Rattle.crc.proofs.Linear.{shift_twice}
use Rattle.crc.proofs.Lookup.{RightTable}
use Rattle.crc.proofs.m17_crc.Given as goal

abbrev pub invariant-loop-first : goal.invariant-loop-first
invariant-loop-first l =
    (l.crc < 65536) × (crc_from l.crc (drop (l.first-index * 2) l.input) ≡ crc_from start l.input) × RightTable shift_byte l.table × RightTable shift_twice l.twice
