-- What frames from the air leave at the edges of document 01's "From the air", "LSF, LICH, frames" and "Answer numbers".
-- Each fact rules out the wrong answer that it is named after. Assumes nothing.
use Rattle.std.specs.Prelude.{ℕ, Bool, true, false, ◌≡◌, List, [], ◌∷◌, ◌++◌, replicate, Ok, Err}
use Rattle.protocol.specs.declared.StreamFrame.{StreamFrame}
use Rattle.protocol.specs.declared.PacketFrameCounter.TheVariants.{FinalFrame}
use Rattle.state.specs.declared.State.{State}
use Rattle.state.specs.declared.State.TheVariants.{Idle, RxAcquiringStream, RxStream, RxPacket}
use Rattle.radio.specs.declared.Radio.{Radio}
use Rattle.radio.specs.declared.AirError.TheVariants.{WrongStore}
use Rattle.radio.specs.Radio.{hears_by}
use Rattle.tnc_air.specs.Collected.{collected_at}
use Rattle.air_lsf.specs.Begun.{lsf_heard}
use Rattle.tnc_stream.specs.Stream.{stream_heard}
use Rattle.tnc_air.specs.Heard.{packet_heard}
use Rattle.tnc_stream.specs.Restarted.{restarted}
use Rattle.tnc_stream.specs.Followed.{followed}
use Rattle.tnc_stream.specs.Acquired.{acquired_with}

-- a radio in a state, with no message
abbrev pub at : State → Radio
at s = record { state = s; outgoing = record { len = 0; read = 0 } }

-- a stream frame: LICH index and part, number, end, data
abbrev pub stream : ℕ → List ℕ → ℕ → Bool → List ℕ → StreamFrame
stream index segment number last bytes =
    record { lich_idx = index; lich_part = segment; frame_number = number; end_of_stream = last; stream_data = bytes }

pub record Air : Type 0 where
  -- a packet's frame of 25 bytes stands behind its LSF of 30 and the frame before it
  pub payload_put_one_on : (r : Radio) → (collected_at r 1 1 (replicate 25 7) (replicate 855 0)).1 ≡ replicate 55 0 ++ replicate 25 7 ++ replicate 775 0
  -- a store not of its stated length is 7, and all lent bytes and records stay
  pub refusal_answered_0 : (r : Radio) (count index : ℕ) (payload : List ℕ) → collected_at r count index payload [] ≡ (record { answer = Err WrongStore; radio = r }, [])
  -- a packet index must equal the count: behind index 0 comes index 1
  pub two_counted : (r : Radio) (payload : List ℕ) → (collected_at r 0 0 payload (replicate 855 0)).0.radio.state ≡ RxPacket 1
  -- a store not of its stated length is 7: the message's has 1,713 bytes
  pub message_store_of_1712 : ((r : Radio) → hears_by r 855 1712 ≡ Err WrongStore) × (hears_by (at Idle) 855 1713 ≡ Ok true)
  -- acquisition restarts: six segments of five bytes stand from the store's start on
  pub segments_one_byte_on : (r : Radio) (number : ℕ) (last : Bool) (bytes : List ℕ)
      → (restarted r (stream 0 (replicate 5 7) number last bytes) (replicate 31 9)).1 ≡ replicate 5 7 ++ replicate 25 0 ++ 9 ∷ []
  -- a packet's LSF (type bit 0 is not set) is kept from the store's start on
  pub packet_lsf_put_one_on : (lsf_heard (at Idle) (replicate 30 2) (replicate 855 0) (replicate 1713 0)).1 ≡ replicate 30 2 ++ replicate 825 0
  -- an LSF (type bit 0 is stream mode) clears what went before: no number is below the one expected first
  pub stream_begins_at_1 : (lsf_heard (at Idle) (replicate 30 1) (replicate 855 0) (replicate 1713 0)).0.radio.state ≡ RxStream 0
  -- behind a frame marked as the end nothing is being received, behind another the next number is expected
  pub end_ignored : (r : Radio) (index : ℕ) (segment bytes rx out : List ℕ)
      → ((followed r 0 (stream index segment 0 true bytes) rx out).0.radio.state ≡ Idle)
      × ((followed r 0 (stream index segment 0 false bytes) rx out).0.radio.state ≡ RxStream 1)
  -- behind the LSF that all six segments yield (its CRC is 0: of no bytes it is FFFF) the number after this frame's is expected
  pub gathered_number_expected : (r : Radio) (out : List ℕ) → (acquired_with r (record { segments = 0xFF ∷ 0xFF ∷ replicate 28 0; mask = 63 }) 5 out).0.radio.state ≡ RxStream 6
  -- the LICH collection comes back with one segment set: segment 1 stands behind segment 0 in the store
  pub segments_not_written : (bytes : List ℕ)
      → (stream_heard (at (RxAcquiringStream 1)) (stream 1 (replicate 5 7) 0 false bytes) (replicate 855 0) (replicate 1713 0)).1 ≡ replicate 5 0 ++ replicate 5 7 ++ replicate 845 0
  -- the last frame has a payload length: of a packet of 1 byte the host reads FEND, header, the LSF, that byte, FEND
  pub whole_last_frame_told : (packet_heard (at (RxPacket 0)) (record { payload = replicate 25 7; counter = FinalFrame 1 }) (replicate 855 0) (replicate 1713 0)).2
      ≡ 0xC0 ∷ 0x10 ∷ replicate 30 0 ++ 7 ∷ 0xC0 ∷ replicate 1679 0
