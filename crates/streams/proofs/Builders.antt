-- What a builder wrote, as the queue decodes it. Assumes nothing.
use mathlib.Core.Path.{◌≡◌, ap, ◌∙◌}
use mathlib.Core.List.{List, ◌++◌, append-nil}
use Prim.Native.Nat.{ℕ, ◌+◌, ◌*◌, ◌/◌, ◌%◌, ◌<◌}
use native.Mathlib.Omega.{arith}
use lib.Dec.{leb}
use lib.ListN.{length, take, drop, get_or, replicate, length-drop, get_or-append}
use lib.Seq.{take-append-le, drop-append-le}
use borrow.Author.Tests.{eq-eqb}
use Rattle.choice.specs.Pick.{pick}
use Rattle.room.specs.Room.{over}
use Rattle.protocol.specs.declared.StreamFrame.{StreamFrame}
use Rattle.protocol.specs.Lsf.{part}
use Rattle.std.specs.Prelude.{Ok, Result, ℕ}
use Rattle.kiss_layout.specs.declared.KissError.{KissError}
use Rattle.kiss_layout.specs.Stream.{stream_content, stream_of}
use Rattle.kiss_layout.specs.Build.{stream_setup, stream_data, refusal, frame_of}
use Rattle.kiss_layout.specs.Promises.{Accepted}
use Rattle.kiss_layout.proofs.Streams.{stream-length}
use Rattle.kiss_layout.proofs.Kept.{built_reads_back, stream_content_reads_back}
use Rattle.streams.specs.Queue.{decoded_of}

-- what a content stands for is in its first 24 bytes
stream-front : (c r : List ℕ) → length c ≡ 26 → stream_of (c ++ r) ≡ stream_of c
unfolding stream_of
stream-front c r whole =
    let at : (i : ℕ) → i < 26 → get_or (c ++ r) i 0 ≡ get_or c i 0 = λ i h. get_or-append c r 0 i (omega arith) in
    let five = at 5 (omega arith) in let six = at 6 (omega arith) in let seven = at 7 (omega arith) in
    let lich : take 5 (c ++ r) ≡ take 5 c = take-append-le 5 c r (omega arith) in
    let voice : part 8 16 (c ++ r) ≡ part 8 16 c =
    ap (take 16) (drop-append-le 8 c r (omega arith)) ∙ take-append-le 16 (drop 8 c) r (omega (arith, length-drop 8 c)) in
    λ t. record { lich_idx = five t / 32; lich_part = lich t; frame_number = six t % 128 * 256 + seven t; end_of_stream = leb 128 (six t); stream_data = voice t }

module _ (f : StreamFrame) (ok : Accepted (stream_data f)) where
  content_length : length (stream_content f) ≡ 26
  content_length = stream-length f ok.typed.0 ok.typed.1

  data_decoded : decoded_of (frame_of (stream_data f)) ≡ (Ok (length (stream_content f)), over (stream_content f) (replicate 30 0))
  data_decoded = (built_reads_back (stream_data f) ok).its_payload (replicate 30 0) (omega (arith, content_length))

  pub data_count : (decoded_of (frame_of (stream_data f))).0 ≡ Ok 26
  data_count = ap (λ (d : Result ℕ KissError × List ℕ). d.0) data_decoded ∙ ap Ok content_length

  pub data_frame : stream_of (decoded_of (frame_of (stream_data f))).1 ≡ f
  data_frame =
      ap (λ (d : Result ℕ KissError × List ℕ). stream_of d.1) data_decoded
      ∙ stream-front (stream_content f) (drop (length (stream_content f)) (replicate 30 0)) content_length
      ∙ (stream_content_reads_back f ok).0

-- an LSF fills the room
pub lsf_decoded : (lsf : List ℕ) → length lsf ≡ 30 → decoded_of (frame_of (stream_setup lsf)) ≡ (Ok 30, lsf)
unfolding refusal pick
lsf_decoded lsf l =
    let z : List ℕ = replicate 30 0 in
    let ok : Accepted (stream_setup lsf) = record { typed = tt; not_refused = rw (eq-eqb (length lsf) 30 l) } in
    let all : over lsf z ≡ lsf = ap (λ (n : ℕ). lsf ++ drop n z) l ∙ append-nil lsf in
    (built_reads_back (stream_setup lsf) ok).its_payload z (omega arith) ∙ (λ t. (Ok (l t), all t))
