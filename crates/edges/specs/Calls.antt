-- What a new TNC is and what its calls answer to stores of another length, from document 01's "The TNC", "Answer numbers" and "Bounds for 8".
-- Each fact rules out the wrong answer that it is named after. Assumes nothing.
use Rattle.std.specs.Prelude.{ℕ, false, ◌≡◌, List, [], replicate, Ok, Err}
use Rattle.channel.specs.declared.Channel.{Channel}
use Rattle.channel.specs.Access.{new_channel}
use Rattle.kiss_calls.specs.declared.KissBuffer.{KissBuffer}
use Rattle.kiss_calls.specs.declared.WriteError.TheVariants.{WrongStore}
use Rattle.radio.specs.declared.AirError.TheVariants.{WrongStore as NoAirStore}
use Rattle.host_record.specs.declared.Host.{Host}
use Rattle.host_record.specs.Host.{new_host}
use Rattle.tnc_core.specs.declared.Tnc.{Tnc}
use Rattle.tnc_core.specs.Tnc.{new_tnc}
use Rattle.tnc_receive.specs.Calls.{hears_by}
use Rattle.tnc.specs.Bytes.{kiss_written}
use Rattle.tnc.specs.Calls.{tnc_written}

pub record Calls : Type 0 where
  -- a new TNC has TxDelay 0
  pub new_has_a_delay : new_tnc.sending.tx_delay ≡ 0
  -- a new TNC has no message to the host
  pub new_has_a_message : new_tnc.radio.outgoing ≡ record { len = 0; read = 0 }
  -- a new TNC has no pending stream LSF
  pub new_has_an_lsf : new_tnc.sending.streams.pending ≡ false
  -- a new TNC has no packet: the places of the packet queue are equal, and it is not full
  pub new_starts_apart : (new_tnc.sending.packets.next ≡ 0) × (new_tnc.sending.packets.curr ≡ 0) × (new_tnc.sending.packets.full ≡ false)
  -- a new TNC has no stream frame: the places of the stream queue are equal, and it is not full
  pub new_has_a_frame : (new_tnc.sending.streams.next ≡ 0) × (new_tnc.sending.streams.curr ≡ 0) × (new_tnc.sending.streams.full ≡ false)
  -- a lent store not of its stated length is 7: the message's has 1,713 bytes, not 855
  pub message_store_not_tested : ((t : Tnc) → hears_by t 855 855 ≡ Err NoAirStore) × (hears_by new_tnc 855 1713 ≡ Ok tt)
  -- a lent store not of its stated length is 7: the streams' has 230 bytes, not the packets' 3,420
  pub stream_store_not_looked_at :
      ((b : KissBuffer) (h : Host) (buf : List ℕ) → (kiss_written b h buf (replicate 1713 0) (replicate 3420 0) (replicate 3420 0)).0.answer ≡ Err WrongStore)
      × ((kiss_written new_tnc.buffer new_host [] (replicate 1713 0) (replicate 3420 0) (replicate 230 0)).0.answer ≡ Ok 0)
  -- a lent store not of its stated length is 7: the reader's has 1,713 bytes, not the packets' 3,420
  pub reader_store_of_3420 :
      ((t : Tnc) (c : Channel) (buf : List ℕ) → (tnc_written t c buf (replicate 3420 0) (replicate 3420 0) (replicate 230 0)).0.answer ≡ Err WrongStore)
      × ((tnc_written new_tnc new_channel [] (replicate 1713 0) (replicate 3420 0) (replicate 230 0)).0.answer ≡ Ok 0)
