-- What the pushes' inner functions leave. From no document: no promise rests on these. Assumes nothing.
use Rattle.std.specs.Prelude.{ℕ, ◌+◌, List, [], ◌∷◌, ◌++◌}
use Rattle.std.proofs.lemmas.List.Edits.{sets}
use Rattle.room.specs.Room.{placed}
use Rattle.crc.specs.Crc.{crc_of, two_bytes}
use Rattle.protocol.specs.Lsf.{part}
use Rattle.protocol.specs.Basic.{basic_lsf}
use Rattle.kiss_layout.specs.Read.{decoded}
use Rattle.packets.specs.Frames.{zeros}
use Rattle.packets.specs.Queue.{RAW}
use Rattle.packets.specs.Inside.{count_of}

-- how many bytes were decoded, and the store with the room at `at` cleared and decoded into from its byte 31 on
unfoldable pub decoded_at : List ℕ → List ℕ → ℕ → ℕ × List ℕ
decoded_at frame store at = (count_of (decoded frame (zeros 824)).0, placed (zeros 31 ++ (decoded frame (zeros 824)).1) store at)

-- the LSF and the type byte before the n bytes from at + 31 on, and the CRC behind them
unfoldable pub sealed_at : List ℕ → ℕ → ℕ → List ℕ
sealed_at store at n = sets (sets store at (basic_lsf ++ (RAW ∷ []))) (at + 31 + n) (two_bytes (crc_of (RAW ∷ part (at + 31) n store)))
