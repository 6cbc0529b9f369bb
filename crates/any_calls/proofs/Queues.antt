-- The promises of specs/QueueRule.antt are kept. Assumes nothing.
use mathlib.Core.Bool.{false, false≢true}
use mathlib.Core.Path.{◌≡◌, refl, sym, ap, ◌∙◌}
use mathlib.Core.List.{List, [], ◌∷◌, ◌++◌, append-nil}
use native.Mathlib.Omega.{arith}
use lib.ListN.{length, drop}
use borrow.Author.Tests.{eq-eqb}
use Rattle.choice.specs.Pick.{pick, and}
use Rattle.channel.specs.Access.{sound_channel}
use Rattle.channel.proofs.Kept as channel
use Rattle.protocol.specs.declared.StreamFrame.{StreamFrame}
use Rattle.kiss_calls.specs.Calls.{sound_buffer}
use Rattle.kiss_calls.proofs.Boxes.{new_sound}
use Rattle.packets.specs.declared.PacketRead.{PacketRead}
use Rattle.std.specs.Prelude.{Result, Ok, Err, Option, Some, None}
use Rattle.room.specs.declared.LentError.{LentError}
use Rattle.room.specs.declared.LentError.TheVariants.{WrongStore, OutOfBounds}
use Rattle.protocol.specs.declared.ModulatorFrame.{ModulatorFrame}
use Rattle.protocol.specs.declared.ModulatorFrame.TheVariants.{Preamble, Lsf, Stream, Packet, EndOfTransmission}
use Rattle.packets.proofs.Kept.{gives_packets}
use Rattle.packets.specs.Frames.{AirFrame, setup, piece, joined}
use Rattle.packets.specs.Queue.{is_empty, read_next, frames_in}
use Rattle.packets.specs.Promises.{Sound as PacketsSound}
use Rattle.packet_rule.specs.Left.{left_of}
use Rattle.packet_rule.specs.Promises.{Four, given}
use Rattle.packet_rule.proofs.Kept.{new_has_none, new_has_four, read_takes, end_is_used_up, something_is_given}
use Rattle.packet_rule.proofs.Held.{held_is_answered}
use Rattle.streams.specs.Promises.{count, frames_from, waiting}
use Rattle.state.specs.declared.State.TheVariants.{TxStreamSentEndOfStream, TxPacket}
use Rattle.state.specs.declared.Transmission.{Transmission}
use Rattle.state.specs.State.{transmission_of}
use Rattle.tx_frame.specs.declared.TxRead.{TxRead}
use Rattle.tx_packet.specs.Packet.{packet_given, packet_read}
use Rattle.tnc_modulator.specs.Modulator.{PACKETS, STREAMS, tx_read, tx_number}
use Rattle.tnc_modulator.specs.Promises.{read_of, Spent, stream_spent, packets_spent}
use Rattle.tnc_modulator.proofs.Kept as modulator
use Rattle.tnc_modulator.proofs.Outcomes.{sound_packets_lem}
use Rattle.tnc_core.specs.declared.Tnc.{Tnc}
use Rattle.tnc_core.specs.Tnc.{sound_tnc}
use Rattle.tnc_core.proofs.Kept as core
use Rattle.tnc_transmit.specs.declared.TncTx.{TncTx}
use Rattle.tnc_transmit.specs.Calls.{put_given}
use Rattle.any_calls.specs.Calls.{World, Call, read_tx_frame, gives, run}
use Rattle.any_calls.specs.Promises.{Sound, AllTyped}
use Rattle.any_calls.specs.Queues.{in_packets, read_in}
use Rattle.any_calls.specs.QueueRule.{New, NeverOutOfBounds, accepted, frames_read, QueueRule, EndWhenUsedUp, SomethingLeftIsGiven, EndOnceUsedUp, streams_accepted, stream_frames_read, StreamRule, Ends, EndBehindTheLast}
use Rattle.any_calls.proofs.Kept.{tx, tx_sound, run_sound, any_calls_stay_sound}
use Rattle.any_calls.proofs.Packets.{gives_as, packets_flow}
use Rattle.any_calls.proofs.Streams.{queue_box, streams_flow}
use Rattle.any_calls.proofs.Ended.{is_sent, sent_ends}
use Rattle.any_calls.proofs.Held.{is_packet, held}

-- ---- a new TNC

module _ (w : World) (n : New w) where
  new_is_sound : Sound w
  new_is_sound =
      record {
        its_reader = n.its_reader;
        its_packets = n.its_packets;
        its_streams = n.its_streams;
        its_rx = n.its_rx;
        its_message = n.its_message;
        its_tnc = ap sound_tnc n.its_tnc ∙ core.new_is_sound;
        its_buffer = ap (λ (t : Tnc). sound_buffer t.buffer w.reader) n.its_tnc ∙ (new_sound w.reader n.its_reader).its_state;
        its_channel = ap sound_channel n.its_channel ∙ channel.new_is_sound;
      }

  new_four : Four w.tnc.sending.packets
  new_four = ap (λ (t : Tnc). length t.sending.packets.places) n.its_tnc ∙ new_has_four

  none_left : left_of w.tnc.sending.packets w.packets ≡ []
  none_left = ap (λ (t : Tnc). left_of t.sending.packets w.packets) n.its_tnc ∙ new_has_none w.packets

  none_waits : waiting (queue_box w.tnc.sending.streams w.streams) ≡ []
  unfolding waiting count frames_from pick
  none_waits = ap (λ (t : Tnc). waiting (queue_box t.sending.streams w.streams)) n.its_tnc

  not_sent : w.tnc.radio.state ≡ TxStreamSentEndOfStream → ⊥
  not_sent e = false≢true (sym (ap (λ (t : Tnc). is_sent t.radio.state) n.its_tnc) ∙ ap is_sent e)

  not-begun : w.tnc.radio.state ≡ TxPacket → ⊥
  not-begun e = false≢true (sym (ap (λ (t : Tnc). is_packet t.radio.state) n.its_tnc) ∙ ap is_packet e)

pub never_out_of_bounds : NeverOutOfBounds
never_out_of_bounds w cs c n d e = let k = any_calls_stay_sound w cs c d e (new_is_sound w n) in (k.1, k.2)

-- ---- packets

-- what the accepted packets have given, and what is left of them
abbrev left_after : World → List Call → List AirFrame
left_after w cs = left_of (run w cs).tnc.sending.packets (run w cs).packets

packets_are : (w : World) (cs : List Call) → New w → AllTyped cs → joined (accepted w cs) ≡ frames_read w cs ++ left_after w cs
packets_are w cs n d =
    ap (λ (fs : List AirFrame). fs ++ joined (accepted w cs)) (sym (none_left w n)) ∙ packets_flow w cs d (new_is_sound w n) (new_four w n)

pub queue_rule : QueueRule
queue_rule w cs n d = (left_after w cs, packets_are w cs n d)

-- with nothing left all was read
used_up : (w : World) (cs : List Call) → New w → AllTyped cs → left_after w cs ≡ [] → joined (accepted w cs) ≡ frames_read w cs
used_up w cs n d e = packets_are w cs n d ∙ ap (λ (fs : List AirFrame). frames_read w cs ++ fs) e ∙ append-nil (frames_read w cs)

module _ (w : World) (s : Sound w) where
  queue_sound : PacketsSound w.tnc.sending.packets w.packets
  queue_sound = record { its_store = s.its_packets; its_state = sound_packets_lem (tx w).state (tx w).sending (tx w).channel (tx_sound w s).its_state }

  spent : (gives w).answer ≡ Ok (Some EndOfTransmission) → Spent (tx w)
  spent e = (modulator.end_only_when_spent (tx w) (ap (λ (r : TncTx). r.answer) (gives_as w s) ∙ e)).0

  -- a read in a packet transmission is the queue's
  is_in_packets : w.tnc.radio.state ≡ TxPacket → read_of (tx w) ≡ packet_read w.tnc.sending w.channel (read_next w.tnc.sending.packets w.packets)
  unfolding tx_read packet_given pick and
  is_in_packets e = rw (eq-eqb (length w.packets) PACKETS s.its_packets, eq-eqb (length w.streams) STREAMS s.its_streams, (tx_sound w s).its_state, e) refl

  reads_of_it : w.tnc.radio.state ≡ TxPacket → read_in in_packets w read_tx_frame ≡ given (read_next w.tnc.sending.packets w.packets)
  unfolding read_in
  reads_of_it e =
      ap (λ (k : Transmission). in_packets k (gives w)) (ap transmission_of e)
      ∙ ap (λ (r : TncTx). frames_in r.answer) (sym (gives_as w s) ∙ ap (put_given w.tnc) (is_in_packets e))

pub end_when_used_up : EndWhenUsedUp
end_when_used_up w cs n d p e = by (spent (run w cs) s e)
  where
    s : Sound (run w cs)
    s = run_sound w cs d (new_is_sound w n)

    by : Spent (tx (run w cs)) → joined (accepted w cs) ≡ frames_read w cs
    by (stream_spent f) = absurd (false≢true (sym (ap is_sent p) ∙ ap is_sent f))
    by (packets_spent f g) = used_up w cs n d (end_is_used_up (run w cs).tnc.sending.packets (run w cs).packets (queue_sound (run w cs) s) g)

pub something_left_is_given : SomethingLeftIsGiven
something_left_is_given w cs n d p some = (
  λ none.
      let s = run_sound w cs d (new_is_sound w n) in
      something_is_given (run w cs).tnc.sending.packets (run w cs).packets (queue_sound (run w cs) s) (λ e. some (used_up w cs n d e)) (sym (reads_of_it (run w cs) s p) ∙ none),
  λ e. some (end_when_used_up w cs n d p e),
)

-- a list that grows by nothing more than itself has grown by nothing
grown_by_none : (fs gs : List AirFrame) → fs ++ gs ≡ fs → gs ≡ []
grown_by_none [] gs e = e
grown_by_none (f ∷ fs) gs e = grown_by_none fs gs (ap (λ (l : List AirFrame). drop 1 l) e)

-- something stands first
not_none : (f : AirFrame) (fs : List AirFrame) → f ∷ fs ≡ [] → ⊥
not_none f fs e = let h : length (f ∷ fs) ≡ 0 = ap length e in absurd (omega arith)

module _ (w : World) (s : Sound w) (p : w.tnc.radio.state ≡ TxPacket) (held_on : is_empty w.tnc.sending.packets ≡ false)
    (none : left_of w.tnc.sending.packets w.packets ≡ [])
  where
    abbrev next : PacketRead
    next = read_next w.tnc.sending.packets w.packets

    takes : given next ++ left_of next.queue w.packets ≡ []
    takes = sym (read_takes w.tnc.sending.packets w.packets (queue_sound w s)) ∙ none

    answered : tx_number next.answer ≡ 0
    answered = ap (λ (r : TxRead). tx_number r.answer) (sym (is_in_packets w s p)) ∙ modulator.sound_is_answered (tx w) (tx_sound w s)

    -- what is left is none, so the answer is no frame; a place is held, so it is not nothing
    ends : (a : Result (Option ModulatorFrame) LentError) → next.answer ≡ a → a ≡ Ok (Some EndOfTransmission)
    ends (Ok None) e = absurd (held_is_answered w.tnc.sending.packets w.packets held_on e)
    ends (Ok (Some (Preamble delay))) e = absurd (false≢true (gives_packets w.tnc.sending.packets w.packets (Preamble delay) e))
    ends (Ok (Some (Lsf lsf))) e = absurd (not_none (setup lsf.0) _ (ap (λ (k : Result (Option ModulatorFrame) LentError). frames_in k ++ left_of next.queue w.packets) (sym e) ∙ takes))
    ends (Ok (Some (Stream frame))) e = absurd (false≢true (gives_packets w.tnc.sending.packets w.packets (Stream frame) e))
    ends (Ok (Some (Packet frame))) e = absurd (not_none (piece frame) _ (ap (λ (k : Result (Option ModulatorFrame) LentError). frames_in k ++ left_of next.queue w.packets) (sym e) ∙ takes))
    ends (Ok (Some EndOfTransmission)) e = refl
    ends (Err WrongStore) e = absurd (omega (arith, sym (ap tx_number e) ∙ answered))
    ends (Err OutOfBounds) e = absurd (omega (arith, sym (ap tx_number e) ∙ answered))

    end_given : (gives w).answer ≡ Ok (Some EndOfTransmission)
    end_given = sym (ap (λ (r : TncTx). r.answer) (gives_as w s)) ∙ ap (λ (r : TxRead). r.answer) (is_in_packets w s p) ∙ ends next.answer refl

pub end_once_used_up : EndOnceUsedUp
end_once_used_up w cs n d p e =
    let s = new_is_sound w n in
    end_given (run w cs) (run_sound w cs d s) p (held w cs d s (λ f. absurd (not-begun w n f)) p) (grown_by_none (frames_read w cs) (left_after w cs) (sym (packets_are w cs n d) ∙ e))

-- ---- streams

pub stream_rule : StreamRule
stream_rule w cs n d = (
  waiting (queue_box (run w cs).tnc.sending.streams (run w cs).streams),
  ap (λ (fs : List StreamFrame). fs ++ streams_accepted w cs) (sym (none_waits w n)) ∙ streams_flow w cs d (new_is_sound w n),
)

pub end_behind_the_last : EndBehindTheLast
end_behind_the_last w cs n d p e = by (spent (run w cs) (run_sound w cs d (new_is_sound w n)) e)
  where
    by : Spent (tx (run w cs)) → Ends (stream_frames_read w cs)
    by (stream_spent f) = sent_ends [] w cs d (new_is_sound w n) (λ g. absurd (not_sent w n g)) f
    by (packets_spent f g) = absurd (p f)
