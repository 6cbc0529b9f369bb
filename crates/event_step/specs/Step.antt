-- What an event does: the call of the TNC that it stands for, over the worlds and calls of crate any_calls, its number, PTT as after it, and the bytes that it prints,
-- from document 01's "Event program". Assumes nothing.
use Rattle.std.specs.Prelude.{ℕ, Bool, not, List, leb, eqb, length, take, get_or, Option, Some, None}
use Rattle.choice.specs.Pick.{pick}
use Rattle.room.specs.Room.{over}
use Rattle.outgoing.specs.Message.{read_count}
use Rattle.streams.specs.Layout.{frame_of}
use Rattle.tnc_modulator.specs.Modulator.{kind_number}
use Rattle.any_calls.specs.Calls.{World, Call, write_kiss, read_kiss, handle_lsf, handle_packet, handle_stream, set_data_carrier_detect, set_now, set_tx_end_time, ptt, read_tx_frame, reads, gives, after, number}
use Rattle.event_input.specs.Events.{HOST, CARRIER, CLOCK, ENDTIME, LSF, PACKET, STREAM, READTX, READHOST, body_len}
use Rattle.event_step.specs.Numbers.{four_bytes, eight_bytes}
use Rattle.event_packet.specs.Packet.{packet_of}
use Rattle.event_answer.specs.declared.EventBox.{EventBox}
use Rattle.event_answer.specs.declared.Applied.{Applied}
use Rattle.event_answer.specs.Answer.{MOST, keyed}
use Rattle.event_tx.specs.Tx.{laid_out}

-- ---- the call that an event stands for; a kind that is not known stands for none. 09 lends the room as far as it asks

unfoldable pub call_of : ℕ → List ℕ → List ℕ → Option Call
call_of kind body room =
    pick (eqb kind HOST) (Some (write_kiss body))
    (pick (eqb kind CARRIER) (Some (set_data_carrier_detect (not (eqb (get_or body 0 0) 0))))
    (pick (eqb kind CLOCK) (Some (set_now (eight_bytes body 0)))
    (pick (eqb kind ENDTIME) (Some (set_tx_end_time (four_bytes body 0)))
    (pick (eqb kind LSF) (Some (handle_lsf body))
    (pick (eqb kind PACKET) (Some (handle_packet (packet_of body)))
    (pick (eqb kind STREAM) (Some (handle_stream (frame_of body)))
    (pick (eqb kind READTX) (Some read_tx_frame) (pick (eqb kind READHOST) (Some (read_kiss (take (get_or body 0 0) room))) None))))))))

-- ---- the bytes: of 08 the delay, the LSF, or a frame laid out as the body of its event; of 09 what was read

unfoldable pub bytes_after : World → Call → List ℕ → ℕ × List ℕ
bytes_after w (write_kiss buf) room = (0, room)
bytes_after w (read_kiss target) room = (read_count (reads w target).0.answer, over (reads w target).1 room)
bytes_after w (handle_lsf lsf) room = (0, room)
bytes_after w (handle_packet f) room = (0, room)
bytes_after w (handle_stream f) room = (0, room)
bytes_after w (set_data_carrier_detect dcd) room = (0, room)
bytes_after w (set_now samples) room = (0, room)
bytes_after w (set_tx_end_time samples) room = (0, room)
bytes_after w ptt room = (0, room)
bytes_after w read_tx_frame room = laid_out (gives w).answer room

-- ---- the number: of 08 that of the frame's kind, else that of the call's answer

unfoldable pub number_of : World → Call → ℕ
number_of w (write_kiss buf) = number w (write_kiss buf)
number_of w (read_kiss target) = number w (read_kiss target)
number_of w (handle_lsf lsf) = number w (handle_lsf lsf)
number_of w (handle_packet f) = number w (handle_packet f)
number_of w (handle_stream f) = number w (handle_stream f)
number_of w (set_data_carrier_detect dcd) = number w (set_data_carrier_detect dcd)
number_of w (set_now samples) = number w (set_now samples)
number_of w (set_tx_end_time samples) = number w (set_tx_end_time samples)
number_of w ptt = number w ptt
number_of w read_tx_frame = kind_number (gives w).answer

-- ---- the event as a whole

-- all that an event leaves: its number, how many bytes of the room it prints, PTT, the world and the room
pub record Turn : Type 0 where
  pub number : ℕ
  pub count : ℕ
  pub ptt : Bool
  pub world : World
  pub bytes : List ℕ

-- the call is made
unfoldable pub made : World → List ℕ → Call → Turn
made w room c =
    record { number = number_of w c; count = (bytes_after w c room).0; ptt = keyed (after w c).tnc; world = after w c; bytes = (bytes_after w c room).1 }

-- answer 9: nothing is changed
unfoldable pub not_made : World → List ℕ → Turn
not_made w room = record { number = 9; count = 0; ptt = keyed w.tnc; world = w; bytes = room }

abbrev pub perhaps : World → List ℕ → Option Call → Turn
perhaps w room None = not_made w room
perhaps w room (Some c) = made w room c

unfoldable pub applied : ℕ → List ℕ → World → List ℕ → Turn
applied kind body w room =
    pick (leb MOST (length room)) (pick (eqb (length body) (body_len kind)) (perhaps w room (call_of kind body room)) (not_made w room)) (not_made w room)

-- ---- the same as the code has it

abbrev pub world_of : EventBox → List ℕ → List ℕ → List ℕ → List ℕ → List ℕ → World
world_of b reader packets streams rx message =
    record { tnc = b.tnc; channel = b.channel; reader = reader; packets = packets; streams = streams; rx = rx; message = message }

abbrev pub turn_of : Applied → List ℕ → List ℕ → List ℕ → List ℕ → List ℕ → List ℕ → Turn
turn_of r reader packets streams rx message bytes =
    record { number = r.number; count = r.count; ptt = r.ptt; world = world_of r.after reader packets streams rx message; bytes = bytes }
