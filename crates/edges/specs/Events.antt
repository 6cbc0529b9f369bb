-- The event program's events and lines at the edges of document 01's "Event program".
-- Each fact rules out the wrong answer that it is named after. Assumes nothing.
use Rattle.std.specs.Prelude.{ℕ, Bool, true, false, ◌≡◌, List, [], ◌∷◌, replicate, Ok}
use Rattle.channel.specs.Access.{new_channel}
use Rattle.state.specs.declared.State.{State}
use Rattle.state.specs.declared.State.TheVariants.{Idle, TxPacket}
use Rattle.tnc_core.specs.declared.Tnc.{Tnc}
use Rattle.tnc_core.specs.Tnc.{new_tnc}
use Rattle.tnc_transmit.specs.Calls.{tnc_tx}
use Rattle.any_calls.specs.Calls.{new_world}
use Rattle.event_input.specs.declared.Next.TheVariants.{Complete, Cut}
use Rattle.event_input.specs.Events.{next_at}
use Rattle.event_line.specs.Line.{written}
use Rattle.event_open.specs.Inside.{open_run}
use Rattle.event_tx.specs.Tx.{of_tx}
use Rattle.event_step.specs.Step.{applied}

-- a new TNC whose reader holds one byte
abbrev pub began : Tnc
began = record { buffer = record { filled = 1; taken = false }; sending = new_tnc.sending; radio = new_tnc.radio; ptt = false }

-- a TNC with TxDelay 10 and one packet of a byte, whose LSF is still to be sent or not
abbrev pub holding : Bool → State → Bool → Tnc
holding due state on =
    record {
      buffer = new_tnc.buffer;
      sending =
          record {
            packets =
                record { places = record { due = due; len = 1; sent = 0 } ∷ replicate 3 (record { due = false; len = 0; sent = 0 }); next = 1; curr = 0; full = false };
            streams = new_tnc.sending.streams;
            tx_delay = 10;
          };
      radio = record { state = state; outgoing = new_tnc.radio.outgoing };
      ptt = on;
    }

pub record Events : Type 0 where
  -- 05 LSF (30): with 29 bytes its body is cut
  pub body_of_05_is_29 : (next_at (5 ∷ replicate 29 0) 0 ≡ Cut 5) × (next_at (5 ∷ replicate 30 0) 0 ≡ Complete 5 1 31)
  -- each event prints kind in hex: `08 1 1 0A`
  pub kind_low_digit_first : (written 8 1 true (0x0A ∷ []) (replicate 10 0) 0).1 ≡ 48 ∷ 56 ∷ 32 ∷ 49 ∷ 32 ∷ 49 ∷ 32 ∷ 48 ∷ 65 ∷ 10 ∷ []
  -- a line without bytes ends after PTT: kind, number, PTT, two blanks and the newline are 7 bytes, and the next line begins behind them
  pub one_place_on : (kind : ℕ) (on : Bool) → (written kind 0 on [] (replicate 7 0) 0).0 ≡ Ok 7
  -- PTT is 0 where it is off, `01 0 0`, and 1 where it is on, `01 0 1`
  pub ptt_turned : ((written 1 0 false [] (replicate 7 0) 0).1 ≡ 48 ∷ 49 ∷ 32 ∷ 48 ∷ 32 ∷ 48 ∷ 10 ∷ [])
      × ((written 1 0 true [] (replicate 7 0) 0).1 ≡ 48 ∷ 49 ∷ 32 ∷ 48 ∷ 32 ∷ 49 ∷ 10 ∷ [])
  -- one byte of kind, then a body: of 01 41, behind a FEND, the reader keeps 41
  pub the_kind_kept : (open_run (record { tnc = began; channel = new_channel }) (1 ∷ 0x41 ∷ []) 0 (replicate 518 0) 0 (0xC0 ∷ replicate 1712 0) 3420 230).2
      ≡ 0xC0 ∷ 0x41 ∷ replicate 1711 0
  -- for 08 the number is 4 for a packet
  pub packet_kind_3 : (of_tx (tnc_tx (holding false TxPacket true) new_channel (replicate 3420 0) (replicate 230 0)) (replicate 255 0)).0.number ≡ 4
  -- for 08 the bytes follow: the delay, of TxDelay 10 0A
  pub delay_not_printed : (of_tx (tnc_tx (holding true Idle false) new_channel (replicate 3420 0) (replicate 230 0)) (replicate 255 0)).1 ≡ 0x0A ∷ replicate 254 0
  -- 09 is known, and a room for 255 bytes is enough for any event; with 254 none is applied
  pub room_of_255_refused : (n : ℕ) (reader packets streams rx : List ℕ) → ((applied 9 (n ∷ []) (new_world reader packets streams rx (replicate 1713 0)) (replicate 254 0)).number ≡ 9)
      × ((applied 9 (n ∷ []) (new_world reader packets streams rx (replicate 1713 0)) (replicate 255 0)).number ≡ 0)
