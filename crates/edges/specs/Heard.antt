-- Stream and packet frames from the air, from document 01's "From the air" and "LSF, LICH, frames" and m17core's tnc.rs.
-- Each fact rules out the wrong answer that it is named after. Assumes nothing.
use Rattle.std.specs.Prelude.{ℕ, true, false, ◌≡◌, List, [], ◌∷◌, length, replicate}
use Rattle.protocol.specs.declared.StreamFrame.{StreamFrame}
use Rattle.lich.specs.declared.LichCollection.{LichCollection}
use Rattle.state.specs.declared.State.TheVariants.{Idle, RxAcquiringStream, RxStream, RxPacket}
use Rattle.radio.specs.declared.Radio.{Radio}
use Rattle.tnc_stream.specs.Restarted.{restarted}
use Rattle.tnc_stream.specs.Acquired.{complete, acquired_with}
use Rattle.tnc_air.specs.Collected.{collected_at}
use Rattle.tnc_stream.specs.Followed.{followed}

-- a stream frame that is not the last, with a LICH index and a number
abbrev pub streamed : ℕ → ℕ → StreamFrame
streamed index number = record { lich_idx = index; lich_part = 1 ∷ 2 ∷ 3 ∷ 4 ∷ 5 ∷ []; frame_number = number; end_of_stream = false; stream_data = replicate 16 0 }

-- segments whose CRC is 0, as the start 0xFFFF is divided away, with a mask of those heard
abbrev pub segmented : ℕ → LichCollection
segmented mask = record { segments = 0xFF ∷ 0xFF ∷ replicate 28 0; mask = mask }

pub record Streams : Type 0 where
  -- only a frame numbered below the expected one restarts LICH acquisition
  pub expected_number_restarts : (r : Radio) (rx out : List ℕ) → ((followed r 7 (streamed 1 7) rx out).0.radio.state ≡ RxStream 8) × ((followed r 7 (streamed 1 6) rx out).0.radio.state ≡ RxAcquiringStream 2)
  -- the next number is expected
  pub same_number_expected : (r : Radio) (rx out : List ℕ) → (followed r 0 (streamed 1 0) rx out).0.radio.state ≡ RxStream 1
  -- an LSF has six segments: five are not enough
  pub five_are_enough : (r : Radio) (out : List ℕ)
      → (complete (segmented 63) ≡ true) × (complete (segmented 31) ≡ false) × ((acquired_with r (segmented 31) 0 out).0.radio.state ≡ RxAcquiringStream 31)
  -- acquisition restarts with a new collection: of segment 0 nothing has been heard
  pub restart_keeps_segment_0 : (r : Radio) (rx : List ℕ) → (restarted r (streamed 1 0) rx).0.radio.state ≡ RxAcquiringStream 2
  -- six segments of five bytes: each stands at its own index
  pub segment_put_first : (r : Radio) → (restarted r (streamed 1 0) (replicate 30 0xEE)).1 ≡ 0 ∷ 0 ∷ 0 ∷ 0 ∷ 0 ∷ 1 ∷ 2 ∷ 3 ∷ 4 ∷ 5 ∷ replicate 20 0

pub record Packets : Type 0 where
  -- a packet index must equal the count, else Idle
  pub earlier_index_taken : (r : Radio) (payload rx : List ℕ) → length rx ≡ 855 → (collected_at r 1 0 payload rx).0.radio.state ≡ Idle
  -- and it must be below 32, else Idle
  pub index_32_taken : (r : Radio) (payload rx : List ℕ) → length rx ≡ 855 → ((collected_at r 31 31 payload rx).0.radio.state ≡ RxPacket 32) × ((collected_at r 32 32 payload rx).0.radio.state ≡ Idle)
