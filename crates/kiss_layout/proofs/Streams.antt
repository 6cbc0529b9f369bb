-- The content of a stream data frame: its length, and that it stands for the frame. Assumes nothing.
use mathlib.Core.Path.{◌≡◌, sym, ap, ◌∙◌}
use mathlib.Core.Bool.{Bool, true, false}
use mathlib.Core.List.{List, ◌∷◌}
use Prim.Native.Nat.{ℕ, ◌+◌, ◌*◌, ◌/◌, ◌%◌, ◌≤◌}
use native.Mathlib.Omega.{arith}
use lib.Dec.{leb}
use lib.ListN.{length, take, drop, get_or, length-append}
use lib.Seq.{take_at, get_or-append-add, drop-append-add}
use borrow.Author.Tests.{le-leb, lt-leb}
use Rattle.crc.specs.Crc.{crc_of, two_bytes, sealed}
use Rattle.crc.proofs.Kept.{sealed_gives_zero, sealed-length}
use Rattle.protocol.specs.declared.StreamFrame.{StreamFrame}
use Rattle.kiss_layout.specs.Stream.{end_mark, numbered_data, stream_content, stream_of}

pub end_mark-small : (e : Bool) → end_mark e ≤ 128
end_mark-small true = omega arith
end_mark-small false = omega arith

-- ---- what a content stands for

number_read : (n : ℕ) (e : Bool) → n ≤ 32767 → (n / 256 + end_mark e) % 128 * 256 + n % 256 ≡ n
number_read n true h = omega arith
number_read n false h = omega arith

end_read : (n : ℕ) (e : Bool) → n ≤ 32767 → leb 128 (n / 256 + end_mark e) ≡ e
end_read n true h = le-leb 128 (n / 256 + 128) (omega arith)
end_read n false h = lt-leb 128 (n / 256 + 0) (omega arith)

module _ (f : StreamFrame) (five : length f.lich_part ≡ 5) where
  behind : List ℕ
  behind = f.lich_idx * 32 ∷ sealed (numbered_data f)

  at_place : (k : ℕ) → get_or (stream_content f) (5 + k) 0 ≡ get_or behind k 0
  unfolding stream_content behind
  at_place k = ap (λ (m : ℕ). get_or (stream_content f) (m + k) 0) (sym five) ∙ get_or-append-add f.lich_part behind k 0

  from_place : (k : ℕ) → drop (5 + k) (stream_content f) ≡ drop k behind
  unfolding stream_content behind
  from_place k = ap (λ (m : ℕ). drop (m + k) (stream_content f)) (sym five) ∙ drop-append-add f.lich_part behind k

  pub stream_crc : crc_of (drop 6 (stream_content f)) ≡ 0
  unfolding behind
  stream_crc = ap crc_of (from_place 1) ∙ sealed_gives_zero (numbered_data f)

  pub stream_of_lem : length f.stream_data ≡ 16 → f.frame_number ≤ 32767 → stream_of (stream_content f) ≡ f
  unfolding stream_of stream_content behind sealed numbered_data
  stream_of_lem sixteen small =
      let n = f.frame_number in let e = f.end_of_stream in
      let index : get_or (stream_content f) 5 0 / 32 ≡ f.lich_idx = omega (arith, at_place 0) in
      let part : take 5 (stream_content f) ≡ f.lich_part = take_at f.lich_part behind 5 five in
      let number : get_or (stream_content f) 6 0 % 128 * 256 + get_or (stream_content f) 7 0 ≡ n = rw (at_place 1, at_place 2) (number_read n e small) in
      let end : leb 128 (get_or (stream_content f) 6 0) ≡ e = rw (at_place 1) (end_read n e small) in
      let bytes : take 16 (drop 8 (stream_content f)) ≡ f.stream_data = rw (from_place 3) (take_at f.stream_data (two_bytes (crc_of (numbered_data f))) 16 sixteen) in
      λ t. record { lich_idx = index t; lich_part = part t; frame_number = number t; end_of_stream = end t; stream_data = bytes t }

pub stream-length : (f : StreamFrame) → length f.lich_part ≡ 5 → length f.stream_data ≡ 16 → length (stream_content f) ≡ 26
unfolding stream_content numbered_data
stream-length f five sixteen =
    omega (arith, length-append f.lich_part (f.lich_idx * 32 ∷ sealed (numbered_data f)), sealed-length (numbered_data f))
