-- Bytes that were placed in a store, and the lengths of zeros and of the fixed LSF. Assumes nothing.
use Prim.Native.Nat.{ℕ, ◌+◌, ◌≤◌}
use mathlib.Core.Path.{◌≡◌, sym, ap, ◌∙◌}
use mathlib.Core.List.{List, ◌++◌, append_assoc}
use native.Mathlib.Omega.{arith}
use lib.ListN.{length, take, drop, length-drop, length-replicate}
use lib.Seq.{length-take-le, drop_at, drop-drop, take-append-le, drop-append-le}
use Rattle.room.specs.Room.{placed}
use Rattle.crc.proofs.Kept.{sealed-length}
use Rattle.protocol.specs.Lsf.{part}
use Rattle.protocol.specs.Basic.{bytes_of, basic_lsf}
use Rattle.packets.specs.Frames.{zeros}

-- the bytes r placed at `at`
module _ (s r : List ℕ) (at : ℕ) (fits : at + length r ≤ length s) where
  pub start : length (take at s) ≡ at
  start = length-take-le at s (omega arith)

  pub apart : placed r s at ≡ take at s ++ (r ++ drop (at + length r) s)
  apart = append_assoc (take at s) r (drop (at + length r) s)

  -- a part of them
  pub part_placed : (k n : ℕ) → k + n ≤ length r → part (at + k) n (placed r s at) ≡ part k n r
  part_placed k n h =
      ap (λ (l : List ℕ). part (at + k) n l) apart
      ∙ ap (take n) (sym (drop-drop k at (take at s ++ (r ++ drop (at + length r) s))) ∙ ap (drop k) (drop_at (take at s) _ at start) ∙ drop-append-le k r _ (omega arith))
      ∙ take-append-le n (drop k r) _ (omega (arith, length-drop k r))

pub length-zeros : (n : ℕ) → length (zeros n) ≡ n
unfolding zeros
length-zeros n = length-replicate n 0

pub basic_lsf_length : length basic_lsf ≡ 30
unfolding basic_lsf bytes_of
basic_lsf_length = sealed-length _
