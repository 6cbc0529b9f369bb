-- What the channel, the TNC's states, the numbers that they are saved as and the message to the host say at the edges of document 01's "Channel access", "Answer numbers" and "Bounds for 8" and of m17core's tnc.rs.
-- Each fact rules out the wrong answer that it is named after. Assumes nothing.
use Rattle.std.specs.Prelude.{ℕ, Bool, true, false, [], ◌∷◌, ◌≡◌, replicate, Ok}
use Rattle.channel.specs.declared.Access.TheVariants.{Sends}
use Rattle.channel.specs.Access.{new_channel, clock_set, carrier_set, duplex_set, accessed}
use Rattle.channel_lent.specs.Lent.{set_by}
use Rattle.state.specs.declared.State.TheVariants.{Idle, RxAcquiringStream, RxStream, TxEnding, TxEndingAtTime}
use Rattle.state.specs.State.{transmits, sound_state, time_reached}
use Rattle.tnc_link.specs.Numbers.{state_numbers, state_read}
use Rattle.outgoing.specs.Message.{host_read}

pub record Channels : Type 0 where
  -- a new channel has no check pending
  pub new_waits : new_channel ≡ record { clock = 0; carrier = false; waits = false; check = 0; duplex = false }
  -- the clock's setter leaves the carrier flag as it is
  pub carrier_with_the_clock : (w d : Bool) → clock_set (record { clock = 0; carrier = true; waits = w; check = 0; duplex = d }) 1
      ≡ record { answer = Ok tt; channel = record { clock = 1; carrier = true; waits = w; check = 0; duplex = d } }
  -- full duplex skips all this: a pending check stays pending
  pub duplex_drops_the_check : (b : Bool) → accessed (record { clock = 0; carrier = b; waits = true; check = 1; duplex = true })
      ≡ record { answer = Ok Sends; channel = record { clock = 0; carrier = b; waits = true; check = 1; duplex = true } }
  -- the carrier flag of the record lent by the caller is set as it is told, off too
  pub carrier_always_heard : (w d : Bool) → set_by (carrier_set (record { clock = 0; carrier = true; waits = w; check = 0; duplex = d }) false)
      ≡ ((Ok tt), record { clock = 0; carrier = false; waits = w; check = 0; duplex = d })
  -- its duplex flag is set as it is told, on too
  pub duplex_never_on : (b w : Bool) → set_by (duplex_set (record { clock = 0; carrier = b; waits = w; check = 0; duplex = false }) true)
      ≡ ((Ok tt), record { clock = 0; carrier = b; waits = w; check = 0; duplex = true })

pub record States : Type 0 where
  -- PTT is on exactly in the five transmit states: it stays on until the clock shows the end
  pub ptt_off_while_ending : (end : ℕ) → transmits (TxEndingAtTime end) ≡ true
  -- it is off while a stream is received
  pub ptt_on_while_a_stream_is_heard : (expected : ℕ) → transmits (RxStream expected) ≡ false
  -- the segment mask is below 64
  pub mask_of_64 : (sound_state (RxAcquiringStream 63) ≡ true) × (sound_state (RxAcquiringStream 64) ≡ false)
  -- the clock ends no transmission that was given no end time
  pub clock_ends_all : (now : ℕ) → time_reached TxEnding now ≡ TxEnding

pub record Saved : Type 0 where
  -- a saved transmission that ends is one that ends, not one of packets
  pub ending_restored_as_packet : state_read 7 0 ≡ Ok TxEnding
  -- an expected frame number has 16 bits: the first that no byte holds is restored
  pub expected_cut_to_a_byte : state_read 2 256 ≡ Ok (RxStream 256)
  -- an idle state has no number: it is saved as 0
  pub idle_has_a_value : state_numbers Idle ≡ record { kind = 0; value = 0 }

pub record Messages : Type 0 where
  -- the count is of the bytes that were given: here the message's only one, and the message is gone
  pub counts_nothing : (b r : ℕ) → host_read (record { len = 1; read = 0 }) (b ∷ replicate 1712 0) (r ∷ [])
      ≡ (record { answer = Ok 1; outgoing = record { len = 0; read = 0 } }, b ∷ [])
  -- the bytes go to the start of the room, and its bytes beyond the count stay
  pub one_byte_on : (b r s : ℕ) → host_read (record { len = 1; read = 0 }) (b ∷ replicate 1712 0) (r ∷ s ∷ [])
      ≡ (record { answer = Ok 1; outgoing = record { len = 0; read = 0 } }, b ∷ s ∷ [])
  -- no more is given than there is room for, and the rest is left to read: of one byte into no room, and of two into a room of one
  pub past_the_room : ((b : ℕ) → host_read (record { len = 1; read = 0 }) (b ∷ replicate 1712 0) [] ≡ (record { answer = Ok 0; outgoing = record { len = 1; read = 0 } }, []))
      × ((b c r : ℕ) → host_read (record { len = 2; read = 0 }) (b ∷ c ∷ replicate 1711 0) (r ∷ []) ≡ (record { answer = Ok 1; outgoing = record { len = 2; read = 1 } }, b ∷ []))
