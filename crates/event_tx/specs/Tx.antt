-- The bytes of a frame for the modulator, and what the event that reads it makes of what the TNC's call gave, from document 01's "Event program". Assumes nothing.
use Rattle.std.specs.Prelude.{ℕ, List, [], ◌∷◌, length, Result, Ok, Err, Option, Some, None}
use Rattle.room.specs.declared.LentError.{LentError}
use Rattle.room.specs.Room.{over}
use Rattle.protocol.specs.declared.ModulatorFrame.{ModulatorFrame}
use Rattle.protocol.specs.declared.ModulatorFrame.TheVariants.{Preamble, Lsf, Stream, Packet, EndOfTransmission}
use Rattle.streams.specs.Layout.{bytes_of}
use Rattle.tnc_modulator.specs.Modulator.{kind_number}
use Rattle.tnc_transmit.specs.declared.TncTx.{TncTx}
use Rattle.event_packet.specs.Packet.{packet_body}
use Rattle.event_answer.specs.declared.Applied.{Applied}
use Rattle.event_answer.specs.Answer.{answered}

-- the delay, the LSF, or a frame laid out as the body of its event
unfoldable pub frame_bytes : Result (Option ModulatorFrame) LentError → List ℕ
frame_bytes (Ok None) = []
frame_bytes (Ok (Some (Preamble delay))) = delay ∷ []
frame_bytes (Ok (Some (Lsf lsf))) = lsf.0
frame_bytes (Ok (Some (Stream frame))) = bytes_of frame
frame_bytes (Ok (Some (Packet frame))) = packet_body frame
frame_bytes (Ok (Some EndOfTransmission)) = []
frame_bytes (Err e) = []

-- how many bytes of the room are printed, and the room: what lies beyond stays
unfoldable pub laid_out : Result (Option ModulatorFrame) LentError → List ℕ → ℕ × List ℕ
laid_out a room = (length (frame_bytes a), over (frame_bytes a) room)

abbrev pub of_tx : TncTx → List ℕ → Applied × List ℕ
of_tx q room = (answered (kind_number q.answer) (laid_out q.answer room).0 q.tnc q.channel, (laid_out q.answer room).1)
