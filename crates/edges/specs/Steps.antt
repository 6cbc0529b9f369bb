-- What the event program's events 01 to 04 and 09 answer and print, from document 01's "Event program" and "Answer numbers".
-- Each fact rules out the wrong answer that it is named after. Assumes nothing.
use Rattle.std.specs.Prelude.{ℕ, Bool, true, false, ◌≡◌, List, [], ◌∷◌, ◌++◌, length, replicate, Ok, Err}
use Rattle.channel.specs.declared.Channel.{Channel}
use Rattle.channel.specs.Access.{new_channel}
use Rattle.room.specs.declared.LentError.{LentError}
use Rattle.tnc_core.specs.declared.Tnc.{Tnc}
use Rattle.tnc_core.specs.Tnc.{new_tnc}
use Rattle.any_calls.specs.Calls.{World, with_both}
use Rattle.event_step.specs.Host.{of_read}
use Rattle.event_step.specs.Step.{Turn, applied}

-- an event, where the bytes that it prints have room
abbrev pub event : ℕ → List ℕ → World → Turn
event kind body w = applied kind body w (replicate 255 0)

-- a new TNC and channel, whatever stands in the stores
abbrev pub new : World → World
new w = with_both w new_tnc new_channel

pub record Times : Type 0 where
  -- 02 carrier (1, 0 is off)
  pub carrier_0_is_on : (w : World) (b p d : Bool) → ((event 2 (0 ∷ []) (with_both w w.tnc (record { clock = 0; carrier = b; waits = p; check = 0; duplex = d }))).world.channel.carrier ≡ false)
      × ((event 2 (1 ∷ []) (with_both w w.tnc (record { clock = 0; carrier = b; waits = p; check = 0; duplex = d }))).world.channel.carrier ≡ true)
  -- 03 clock (8): a body of another length is 9
  pub clock_of_9_bytes : (w : World) → ((event 3 (replicate 8 0) (new w)).number ≡ 0) × ((event 3 (replicate 9 0) w).number ≡ 9)
  -- a clock over 2^62 is 6
  pub clock_over_its_limit_is_8 : (w : World) → ((event 3 (0x40 ∷ replicate 7 0) (new w)).number ≡ 0) × ((event 3 (0x40 ∷ (replicate 6 0 ++ (1 ∷ []))) (new w)).number ≡ 6)
  -- 04 end time (4): a body of another length is 9
  pub end_time_of_5_bytes : (w : World) → ((event 4 (replicate 4 0) (new w)).number ≡ 0) × ((event 4 (replicate 5 0) w).number ≡ 9)

-- a new TNC but for a reader that has no taken frame to drop, is full and holds a whole frame
abbrev pub full : World → World
full w =
    record {
      tnc = record { buffer = record { filled = 1713; taken = false }; sending = new_tnc.sending; radio = new_tnc.radio; ptt = false };
      channel = new_channel;
      reader = 0xC0 ∷ 0x41 ∷ 0xC0 ∷ replicate 1710 0;
      packets = w.packets;
      streams = w.streams;
      rx = w.rx;
      message = w.message;
    }

-- a new TNC but for a message to the host of two bytes, of which none was read
abbrev pub told : World → ℕ → ℕ → World
told w a b =
    record {
      tnc =
          record { buffer = new_tnc.buffer; sending = new_tnc.sending; radio = record { state = new_tnc.radio.state; outgoing = record { len = 2; read = 0 } }; ptt = false };
      channel = w.channel;
      reader = w.reader;
      packets = w.packets;
      streams = w.streams;
      rx = w.rx;
      message = a ∷ b ∷ replicate 1711 0;
    }

pub record Hosts : Type 0 where
  -- a write to a reader that has no taken frame to drop, is full and holds a whole frame is 5
  pub full_reader_is_0 : (w : World) (b : ℕ) → length w.packets ≡ 3420 → length w.streams ≡ 230 → (event 1 (b ∷ []) (full w)).number ≡ 5
  -- bytes follow for 08 and 09 only: 01 prints none
  pub host_byte_prints_a_byte : (w : World) (b : ℕ) → (event 1 (b ∷ []) w).count ≡ 0
  -- 09 read host bytes, at most (1): of two bytes one where one is asked for, and the room beyond it stays
  pub more_than_asked : (w : World) (a b : ℕ) → ((event 9 (1 ∷ []) (told w a b)).count ≡ 1) × ((event 9 (1 ∷ []) (told w a b)).bytes ≡ a ∷ replicate 254 0)
  -- the bytes follow: as many as were read are printed
  pub read_not_counted : (c : Channel) (t : Tnc) (bytes room : List ℕ) → ((n : ℕ) → (of_read c (record { answer = Ok n; tnc = t }, bytes) room).0.count ≡ n)
      × ((e : LentError) → (of_read c (record { answer = Err e; tnc = t }, bytes) room).0.count ≡ 0)
