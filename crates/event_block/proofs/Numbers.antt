-- Every event's number has one digit, and its line at most 518 bytes. Assumes nothing.
use Prim.Native.Nat.{ℕ, ◌≤◌, min}
use mathlib.Core.List.{List}
use native.Mathlib.Omega.{arith}
use lib.ListN.{length, length-take}
use Rattle.choice.specs.Pick.{pick_all}
use Rattle.std.specs.Prelude.{Result, Ok, Err, Option, Some, None, Bool}
use Rattle.radio.specs.declared.AirError.{AirError}
use Rattle.radio.specs.declared.AirError.TheVariants.{OutOfRange as AirRange, WrongStore as AirStore, OutOfBounds as AirBounds}
use Rattle.channel.specs.declared.ChannelError.{ChannelError}
use Rattle.channel.specs.declared.ChannelError.TheVariants.{OutOfRange as SetRange, OutOfBounds as SetBounds}
use Rattle.room.specs.declared.LentError.{LentError}
use Rattle.room.specs.declared.LentError.TheVariants.{WrongStore as LentStore, OutOfBounds as LentBounds}
use Rattle.channel.specs.Access.{carrier_set, set_number}
use Rattle.kiss_calls.specs.declared.WriteError.{WriteError}
use Rattle.kiss_calls.specs.declared.WriteError.TheVariants.{Full, WrongStore as WriteStore, OutOfBounds as WriteBounds}
use Rattle.kiss_calls.specs.Calls.{write_number}
use Rattle.outgoing.specs.Message.{host_number}
use Rattle.radio.specs.Radio.{air_number}
use Rattle.protocol.specs.declared.ModulatorFrame.{ModulatorFrame}
use Rattle.protocol.specs.declared.ModulatorFrame.TheVariants.{Preamble, Lsf, Stream, Packet, EndOfTransmission}
use Rattle.tnc_modulator.specs.Modulator.{kind_number}
use Rattle.tnc_core.specs.Tnc.{ptt_of, ptt_number}
use Rattle.tnc_clock.specs.Clock.{now_set, end_time_set}
use Rattle.any_calls.specs.Calls.{World, Call, write_kiss, read_kiss, handle_lsf, handle_packet, handle_stream, set_data_carrier_detect, set_now, set_tx_end_time, ptt, read_tx_frame, writes, reads, hears, lsf_in, packet_in, stream_in, gives, number}
use Rattle.event_line.proofs.Lines.{line_most}
use Rattle.event_answer.specs.Answer.{LINE}
use Rattle.event_step.specs.Step.{Turn, call_of, number_of, made, not_made, perhaps, applied}
use Rattle.event_block.specs.Spot.{shown}
use Rattle.event_block.specs.Block.{line_for}

write_digit : (a : Result ℕ WriteError) → write_number a ≤ 9
write_digit (Ok n) = omega arith
write_digit (Err Full) = omega arith
write_digit (Err WriteStore) = omega arith
write_digit (Err WriteBounds) = omega arith

read_digit : (a : Result ℕ LentError) → host_number a ≤ 9
read_digit (Ok n) = omega arith
read_digit (Err LentStore) = omega arith
read_digit (Err LentBounds) = omega arith

air_digit : (a : (Result (Unit {0}) AirError)) → air_number a ≤ 9
air_digit (Ok tt) = omega arith
air_digit (Err AirRange) = omega arith
air_digit (Err AirStore) = omega arith
air_digit (Err AirBounds) = omega arith

set_digit : (a : (Result (Unit {0}) ChannelError)) → set_number a ≤ 9
set_digit (Ok tt) = omega arith
set_digit (Err SetRange) = omega arith
set_digit (Err SetBounds) = omega arith

ptt_digit : (a : (Result Bool LentError)) → ptt_number a ≤ 9
ptt_digit (Ok on) = omega arith
ptt_digit (Err LentStore) = omega arith
ptt_digit (Err LentBounds) = omega arith

kind_digit : (a : Result (Option ModulatorFrame) LentError) → kind_number a ≤ 9
kind_digit (Ok None) = omega arith
kind_digit (Ok (Some (Preamble delay))) = omega arith
kind_digit (Ok (Some (Lsf lsf))) = omega arith
kind_digit (Ok (Some (Stream frame))) = omega arith
kind_digit (Ok (Some (Packet frame))) = omega arith
kind_digit (Ok (Some EndOfTransmission)) = omega arith
kind_digit (Err e) = omega arith

call_digit : (w : World) (c : Call) → number_of w c ≤ 9
unfolding number_of number
call_digit w (write_kiss buf) = write_digit (writes w buf).0.answer
call_digit w (read_kiss target) = read_digit (reads w target).0.answer
call_digit w (handle_lsf lsf) = air_digit (hears w (lsf_in w lsf)).0.answer
call_digit w (handle_packet f) = air_digit (hears w (packet_in w f)).0.answer
call_digit w (handle_stream f) = air_digit (hears w (stream_in w f)).0.answer
call_digit w (set_data_carrier_detect dcd) = set_digit (carrier_set w.channel dcd).answer
call_digit w (set_now samples) = set_digit (now_set w.tnc w.channel samples).answer
call_digit w (set_tx_end_time samples) = set_digit (end_time_set w.tnc w.channel samples).answer
call_digit w ptt = ptt_digit (ptt_of w.tnc)
call_digit w read_tx_frame = kind_digit (gives w).answer

perhaps_digit : (w : World) (room : List ℕ) (c : Option Call) → (perhaps w room c).number ≤ 9
unfolding made not_made
perhaps_digit w room None = omega arith
perhaps_digit w room (Some c) = call_digit w c

pub one_digit : (k : ℕ) (b : List ℕ) (w : World) (room : List ℕ) → (applied k b w room).number ≤ 9
unfolding applied not_made
one_digit k b w room =
    pick_all (λ (t : Turn). t.number ≤ 9) _ _ _
    (λ e. pick_all (λ (t : Turn). t.number ≤ 9) _ _ _ (λ f. perhaps_digit w room (call_of k b room)) (λ f. omega arith))
    (λ e. omega arith)

pub line_fits : (k : ℕ) (t : Turn) → length (line_for k t) ≤ LINE
line_fits k t = omega (arith, line_most k t.number t.ptt (shown t), length-take (min t.count 255) t.bytes)
