-- What a read for the modulator says at the edges of document 01's "To the modulator", "Channel access" and answer 7.
-- Each fact rules out the wrong answer that it is named after. Assumes nothing.
use Rattle.std.specs.Prelude.{ℕ, true, false, List, ◌≢◌, ◌≡◌, replicate, Result, Ok, Err, Option, Some, None}
use Rattle.channel.specs.declared.Channel.{Channel}
use Rattle.channel.specs.Access.{new_channel}
use Rattle.room.specs.declared.LentError.{LentError}
use Rattle.room.specs.declared.LentError.TheVariants.{WrongStore}
use Rattle.protocol.specs.declared.StreamFrame.{StreamFrame}
use Rattle.protocol.specs.declared.PacketFrame.{PacketFrame}
use Rattle.protocol.specs.declared.ModulatorFrame.{ModulatorFrame}
use Rattle.protocol.specs.declared.ModulatorFrame.TheVariants.{Preamble, Stream, Packet}
use Rattle.state.specs.declared.State.{State}
use Rattle.state.specs.declared.State.TheVariants.{TxEnding}
use Rattle.packets.specs.declared.Place.{Place}
use Rattle.packets.specs.declared.PacketQueue.{PacketQueue}
use Rattle.sending.specs.declared.Sending.{Sending}
use Rattle.sending.specs.Sending.{new_sending}
use Rattle.tx_frame.specs.Frame.{unfilled}
use Rattle.tx_begin.specs.Begin.{begun}
use Rattle.tnc_modulator.specs.Modulator.{tx_read}

-- a stream's LSF waits, beside packets p and with the delay d
abbrev pub with_lsf : PacketQueue → ℕ → Sending
with_lsf p d = record { packets = p; streams = record { next = 0; curr = 0; full = false; pending = true }; tx_delay = d }

-- no LSF waits and no packet, whatever its places held
abbrev pub with_nothing : List Place → ℕ → Sending
with_nothing l d =
    record { packets = record { places = l; next = 0; curr = 0; full = false }; streams = record { next = 0; curr = 0; full = false; pending = false }; tx_delay = d }

pub record Transmissions : Type 0 where
  -- an answer of another kind has no packet frame, whatever its index
  pub no_packet_frame_has_an_index : (a : Result (Option ModulatorFrame) LentError) → ((f : PacketFrame) → a ≢ Ok (Some (Packet f)))
      → (s : State) (q : Sending) (c : Channel) (f : PacketFrame) → (unfilled a s q c).answer ≢ Ok (Some (Packet f))
  -- and no stream frame, one that is marked as last or another
  pub no_stream_frame_ends : (a : Result (Option ModulatorFrame) LentError) → ((f : StreamFrame) → a ≢ Ok (Some (Stream f)))
      → (s : State) (q : Sending) (c : Channel) (f : StreamFrame) → (unfilled a s q c).answer ≢ Ok (Some (Stream f))
  -- nor has it anything else: it is the answer that was given
  pub no_stream_frame_has_a_number : (a : Result (Option ModulatorFrame) LentError) (s : State) (q : Sending) (c : Channel) → (unfilled a s q c).answer ≡ a
  -- no check pending: busy sets one, and nothing is begun
  pub channel_not_asked : (s : State) (p : PacketQueue) (d : ℕ) → (begun s (with_lsf p d) (record { clock = 0; carrier = true; waits = false; check = 0; duplex = false })).answer ≡ Ok None
  -- a TNC with nothing to send begins nothing, whatever the channel
  pub empty_queues_key_up : (s : State) (l : List Place) (d : ℕ) (c : Channel) → (begun s (with_nothing l d) c).answer ≡ Ok None
  -- clear sends: a preamble with the delay that the host set
  pub preamble_without_delay : (s : State) (p : PacketQueue) (d : ℕ) → (begun s (with_lsf p d) (record { clock = 0; carrier = false; waits = false; check = 0; duplex = false })).answer ≡ Ok (Some (Preamble d))
  -- a lent store not of its stated length: a stream store of 229 bytes is refused whatever the state, one of 230 is not
  pub stream_store_of_229 : ((s : State) (q : Sending) (c : Channel) → (tx_read s q c (replicate 3420 0) (replicate 229 0)).answer ≡ Err WrongStore)
      × ((tx_read TxEnding new_sending new_channel (replicate 3420 0) (replicate 230 0)).answer ≡ Ok None)
