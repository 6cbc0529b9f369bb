-- Frames and bytes from the host, and the reading of a message to it, from document 01's "From the host", "The reader's meaning" and "Bounds for 8" and m17core's read_kiss.
-- Each fact rules out the wrong answer that it is named after. Assumes nothing.
use Rattle.std.specs.Prelude.{ℕ, true, false, ◌≡◌, List, [], ◌∷◌, ◌++◌, length, replicate, Ok}
use Rattle.outgoing.specs.Message.{host_read}
use Rattle.host_record.specs.declared.Host.{Host}
use Rattle.host_record.specs.Host.{new_host}
use Rattle.host_frame.specs.Setting.{setting_in, delay_set, duplex_of}
use Rattle.host_frame.specs.Data.{data_taken}
use Rattle.tnc.specs.Bytes.{kiss_written}

pub record FromHost : Type 0 where
  -- port 0 is a basic packet's: one byte is queued, where a whole packet of it would be ignored
  pub port_0_as_full : (packets streams : List ℕ) → length packets ≡ 3420 → (data_taken 0 new_host (0xC0 ∷ 0x00 ∷ 0x41 ∷ 0xC0 ∷ []) packets streams).0.sending.packets.next ≡ 1
  -- port 2 is a stream's: 26 bytes are data, where a whole packet of them would be ignored
  pub port_2_as_full : (packets streams : List ℕ) → length streams ≡ 230 → (data_taken 2 new_host (0xC0 ∷ 0x20 ∷ (replicate 26 0x41 ++ (0xC0 ∷ []))) packets streams).0.sending.streams.next ≡ 1
  -- TxDelay takes the first payload byte
  pub delay_not_as_told : (h : Host) → (delay_set (setting_in (0xC0 ∷ 0x01 ∷ 0x0A ∷ 0xC0 ∷ [])) h).sending.tx_delay ≡ 0x0A
  -- FullDuplex too: any byte but 0 is on
  pub duplex_turned : ((duplex_of (setting_in (0xC0 ∷ 0x05 ∷ 0x02 ∷ 0xC0 ∷ [])) new_host).channel.duplex ≡ true) × ((duplex_of (setting_in (0xC0 ∷ 0x05 ∷ 0x00 ∷ 0xC0 ∷ [])) new_host).channel.duplex ≡ false)
  -- a write answers the bytes taken
  pub claims_no_byte : (reader packets streams : List ℕ) → length reader ≡ 1713 → length packets ≡ 3420 → length streams ≡ 230 → (kiss_written (record { filled = 0; taken = false }) new_host (0x55 ∷ []) reader packets streams).0.answer ≡ Ok 1

pub record ToHost : Type 0 where
  -- a message that was read to its end is gone
  pub never_gone : (store : List ℕ) (room : ℕ) → length store ≡ 1713 → (host_read (record { len = 1; read = 0 }) store (room ∷ [])).0.outgoing ≡ record { len = 0; read = 0 }
  -- what did not fit is read next
  pub rest_lost : (store : List ℕ) (room : ℕ) → length store ≡ 1713 → (host_read (record { len = 2; read = 0 }) store (room ∷ [])).0.outgoing ≡ record { len = 2; read = 1 }
