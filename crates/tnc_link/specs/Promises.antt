-- What is promised of the record that a host keeps. Each is proved in proofs/Kept.antt. Assumes nothing.
use Rattle.std.specs.Prelude.{ℕ, ◌≤◌, true, ◌≡◌}
use Rattle.state.specs.declared.State.{State}
use Rattle.state.specs.declared.State.TheVariants.{Idle, RxAcquiringStream, RxStream, RxPacket, TxStream, TxStreamSentEndOfStream, TxPacket, TxEnding, TxEndingAtTime}
use Rattle.event_answer.specs.declared.EventBox.{EventBox}
use Rattle.tnc_link.specs.Numbers.{valid_state}
use Rattle.tnc_link.specs.Saved.{saved_of, restored}

-- a state whose number is one of its type
pub data Typed : State → Type 0 where
  idle : Typed Idle
  acquiring : {mask : ℕ} → mask ≤ 255 → Typed (RxAcquiringStream mask)
  stream : {expected : ℕ} → expected ≤ 65535 → Typed (RxStream expected)
  packet : {count : ℕ} → Typed (RxPacket count)
  tx_stream : Typed TxStream
  tx_sent : Typed TxStreamSentEndOfStream
  tx_packet : Typed TxPacket
  tx_ending : Typed TxEnding
  tx_ending_at : {end : ℕ} → Typed (TxEndingAtTime end)

-- what was saved is a valid state, and restored it is what it was
abbrev pub SavedIsRestored : Type 0
SavedIsRestored =
    (b : EventBox) → Typed b.tnc.radio.state → (valid_state (saved_of b).state (saved_of b).value ≡ true) × (restored (saved_of b) ≡ b)
