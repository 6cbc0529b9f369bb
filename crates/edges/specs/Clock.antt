-- How the clock ends a transmission, and which numbers stand for a state that is saved, from document 01's "Bounds for 8" and m17core's tnc.rs.
-- Each fact rules out the wrong answer that it is named after. Assumes nothing.
use Rattle.std.specs.Prelude.{ℕ, ◌≡◌, Ok, Err}
use Rattle.state.specs.declared.State.TheVariants.{Idle, RxAcquiringStream, TxStream, TxStreamSentEndOfStream, TxEnding, TxEndingAtTime}
use Rattle.state.specs.State.{time_reached, ending_at}
use Rattle.tnc_link.specs.Numbers.{state_numbers, state_read, no_state}

pub record Ends : Type 0 where
  -- only the first end that is given counts
  pub a_second_end_replaces : (first second : ℕ) → ending_at (TxEndingAtTime first) second ≡ TxEndingAtTime first
  -- an end time does not switch PTT off: the transmission is over at that time
  pub end_time_drops_ptt : (end : ℕ) → ending_at TxEnding end ≡ TxEndingAtTime end
  -- a transmission whose end has come is over, and not before
  pub over_but_transmitting : (time_reached (TxEndingAtTime 5) 5 ≡ Idle) × (time_reached (TxEndingAtTime 5) 4 ≡ TxEndingAtTime 5)

-- the nine states have the kinds 0 to 8, in the order of tnc.rs
pub record Saved : Type 0 where
  -- a stream that is being sent is kind 4
  pub kinds_swapped : state_numbers TxStream ≡ record { kind = 4; value = 0 }
  -- one whose last frame was sent is kind 5
  pub sent_end_told_as_packet : state_numbers TxStreamSentEndOfStream ≡ record { kind = 5; value = 0 }
  -- a state without a number has the value 0
  pub plain_state_has_a_value : state_numbers TxEnding ≡ record { kind = 7; value = 0 }
  -- a mask is a byte: 255 can be one, 256 can not
  pub mask_over_a_byte : (state_read 1 255 ≡ Ok (RxAcquiringStream 255)) × (state_read 1 256 ≡ Err no_state)
  -- a kind over 8 is no state
  pub unknown_state_idle : (state_read 8 0 ≡ Ok (TxEndingAtTime 0)) × (state_read 9 0 ≡ Err no_state)
