-- The 25 bytes of a stored frame stand for the frame. Assumes nothing.
use mathlib.Core.Path.{◌≡◌, refl, sym, ap, ◌∙◌}
use mathlib.Core.Bool.{Bool, true, false, not}
use mathlib.Core.List.{List, ◌∷◌, ◌++◌}
use Prim.Native.Nat.{ℕ, ◌+◌, ◌*◌}
use native.Mathlib.Nat.{div-add-mod'}
use native.Mathlib.Omega.{arith}
use lib.Dec.{eqb}
use lib.ListN.{length, take, drop, get_or, length-append, length-drop}
use lib.Seq.{take_at, take_all, drop-append-add, get_or-append-add, length-take-le}
use Rattle.crc.specs.Crc.{two_bytes}
use Rattle.protocol.specs.declared.StreamFrame.{StreamFrame}
use Rattle.protocol.specs.Lsf.{part}
use Rattle.kiss_layout.specs.Stream.{stream_of}
use Rattle.streams.specs.Layout.{FRAME, end_byte, bytes_of, frame_of}

end_read : (e : Bool) → not (eqb (end_byte e) 0) ≡ e
end_read true = refl
end_read false = refl

module _ (f : StreamFrame) (five : length f.lich_part ≡ 5) (sixteen : length f.stream_data ≡ 16) where
  behind : List ℕ
  behind = two_bytes f.frame_number ++ (end_byte f.end_of_stream ∷ f.stream_data)

  at_place : (k : ℕ) → get_or (f.lich_part ++ behind) (5 + k) 0 ≡ get_or behind k 0
  at_place k = ap (λ (m : ℕ). get_or (f.lich_part ++ behind) (m + k) 0) (sym five) ∙ get_or-append-add f.lich_part behind k 0

  pub bytes_length : length (bytes_of f) ≡ FRAME
  unfolding bytes_of behind
  bytes_length = omega (arith, length-append f.lich_part behind)

  pub frame_of_lem : frame_of (bytes_of f) ≡ f
  unfolding frame_of bytes_of behind
  frame_of_lem =
      let n = f.frame_number in
      let lich : part 1 5 (bytes_of f) ≡ f.lich_part = take_at f.lich_part behind 5 five in
      let number : get_or (bytes_of f) 6 0 * 256 + get_or (bytes_of f) 7 0 ≡ n = (λ t. at_place 0 t * 256 + at_place 1 t) ∙ div-add-mod' n 256 in
      let end : not (eqb (get_or (bytes_of f) 8 0) 0) ≡ f.end_of_stream = ap (λ (x : ℕ). not (eqb x 0)) (at_place 2) ∙ end_read f.end_of_stream in
      let from : drop 8 (f.lich_part ++ behind) ≡ f.stream_data =
      ap (λ (m : ℕ). drop (m + 3) (f.lich_part ++ behind)) (sym five) ∙ drop-append-add f.lich_part behind 3 in
      let voice : part 9 16 (bytes_of f) ≡ f.stream_data = ap (take 16) from ∙ take_all 16 f.stream_data (omega arith) in
      λ t. record { lich_idx = f.lich_idx; lich_part = lich t; frame_number = number t; end_of_stream = end t; stream_data = voice t }

-- what a payload of 30 bytes stands for has parts of their lengths
module _ (p : List ℕ) (thirty : length p ≡ 30) where
  pub payload_five : length (stream_of p).lich_part ≡ 5
  unfolding stream_of
  payload_five = length-take-le 5 p (omega arith)

  pub payload_sixteen : length (stream_of p).stream_data ≡ 16
  unfolding stream_of
  payload_sixteen = length-take-le 16 (drop 8 p) (omega (arith, length-drop 8 p))
