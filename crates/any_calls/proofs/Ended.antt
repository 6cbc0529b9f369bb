-- Where a stream's last frame was sent, the frame read last was marked as the last, over any calls. Assumes nothing.
use Prim.Native.Nat.{ℕ}
use mathlib.Core.Bool.{Bool, true, false, false≢true}
use mathlib.Core.Path.{◌≡◌, refl, sym, ap, ◌∙◌, subst}
use mathlib.Core.List.{List, [], ◌∷◌, ◌++◌, append-nil, append_assoc}
use Rattle.choice.specs.Pick.{pick, pick_all}
use Rattle.channel.specs.declared.Channel.{Channel}
use Rattle.protocol.specs.declared.StreamFrame.{StreamFrame}
use Rattle.std.specs.Prelude.{Result, Ok, Err, Option, Some, None}
use Rattle.room.specs.declared.LentError.{LentError}
use Rattle.protocol.specs.declared.ModulatorFrame.{ModulatorFrame}
use Rattle.protocol.specs.declared.ModulatorFrame.TheVariants.{Preamble, Lsf, Stream, Packet, EndOfTransmission}
use Rattle.packets.specs.Queue.{read_next as next_piece}
use Rattle.streams.specs.declared.StreamRead.{StreamRead}
use Rattle.streams.specs.Queue.{read_next}
use Rattle.sending.specs.declared.Sending.{Sending}
use Rattle.state.specs.declared.State.{State}
use Rattle.state.specs.declared.State.TheVariants.{Idle, RxAcquiringStream, RxStream, RxPacket, TxStream, TxStreamSentEndOfStream, TxPacket, TxEnding, TxEndingAtTime}
use Rattle.state.specs.State.{transmission_of}
use Rattle.tx_frame.specs.declared.TxRead.{TxRead}
use Rattle.tx_begin.specs.Begin.{keyed_up}
use Rattle.tx_stream.specs.Stream.{stream_read}
use Rattle.tx_packet.specs.Packet.{after_packet}
use Rattle.tnc_modulator.proofs.Outcomes.{Passed, none_waits, held_back, is_keyed_up, in_stream, stream_over, is_in_packets, ending, sound_outcome}
use Rattle.tnc_core.specs.declared.Tnc.{Tnc}
use Rattle.tnc_transmit.specs.declared.TncTx.{TncTx}
use Rattle.tnc_transmit.specs.Calls.{put_given}
use Rattle.any_calls.specs.Calls.{World, Call, write_kiss, read_kiss, handle_lsf, handle_packet, handle_stream, set_data_carrier_detect, set_now, set_tx_end_time, ptt, read_tx_frame, after, run}
use Rattle.any_calls.specs.Promises.{AllTyped, Sound}
use Rattle.any_calls.specs.Queues.{in_streams, read_in, over_all}
use Rattle.any_calls.specs.QueueRule.{Ends}
use Rattle.any_calls.proofs.Begun.{Reads, begun_by_reads}
use Rattle.any_calls.proofs.Kept.{tx, tx_sound, sound_stays_sound}
use Rattle.any_calls.proofs.Packets.{gives_as}
use Rattle.any_calls.proofs.Streams.{no_frame_lem}

-- a stream's last frame was sent, and its end not yet given
abbrev pub is_sent : State → Bool
is_sent Idle = false
is_sent (RxAcquiringStream mask) = false
is_sent (RxStream expected) = false
is_sent (RxPacket count) = false
is_sent TxStream = false
is_sent TxStreamSentEndOfStream = true
is_sent TxPacket = false
is_sent TxEnding = false
is_sent (TxEndingAtTime end) = false

-- another state is not that one
other : {A : Type 0} {s : State} → is_sent s ≡ false → s ≡ TxStreamSentEndOfStream → A
other e f = absurd (false≢true (sym e ∙ ap is_sent f))

abbrev Sent : Tnc → Type 0
Sent t = t.radio.state ≡ TxStreamSentEndOfStream

-- ---- a read

after_packet-other : (a : Result (Option ModulatorFrame) LentError) → is_sent (after_packet a) ≡ false
after_packet-other (Ok None) = refl
after_packet-other (Ok (Some (Preamble delay))) = refl
after_packet-other (Ok (Some (Lsf lsf))) = refl
after_packet-other (Ok (Some (Stream frame))) = refl
after_packet-other (Ok (Some (Packet frame))) = refl
after_packet-other (Ok (Some EndOfTransmission)) = refl
after_packet-other (Err e) = refl

module _ (t : Tnc) (q : Sending) (c : Channel) (ps ss : List ℕ) (fs : List StreamFrame) where
  abbrev EndsAfter : State → TxRead → Type 0
  EndsAfter s r = r.state ≡ TxStreamSentEndOfStream → Ends (fs ++ in_streams (transmission_of s) (put_given t r))

  -- the frame that a stream read gives, by its answer
  by_answer : (a : Result (Option ModulatorFrame) LentError) (r : StreamRead) → r.answer ≡ a → EndsAfter TxStream (stream_read q c r)
  unfolding pick
  by_answer (Ok None) r e = rw e (other {s = TxStream} refl)
  by_answer (Ok (Some (Preamble delay))) r e = rw e (other {s = TxStream} refl)
  by_answer (Ok (Some (Lsf lsf))) r e = rw e (other {s = TxStream} refl)
  by_answer (Ok (Some (Stream frame))) r e = rw e (marked frame.end_of_stream refl)
    where
      marked : (last : Bool) → frame.end_of_stream ≡ last → pick last TxStreamSentEndOfStream TxStream ≡ TxStreamSentEndOfStream → Ends (fs ++ (frame ∷ []))
      marked true m f = record { before = fs; last = frame; its_list = refl; its_mark = m }
      marked false m f = other {s = TxStream} refl f
  by_answer (Ok (Some (Packet frame))) r e = rw e (other {s = TxStream} refl)
  by_answer (Ok (Some EndOfTransmission)) r e = rw e (other {s = TxStream} refl)
  by_answer (Err k) r e = rw e (other {s = TxStream} refl)

  -- no frame is read and the state stands
  stands : (s : State) (r : TxRead) → in_streams (transmission_of s) (put_given t r) ≡ [] → (s ≡ TxStreamSentEndOfStream → Ends fs) → s ≡ TxStreamSentEndOfStream
      → Ends (fs ++ in_streams (transmission_of s) (put_given t r))
  stands s r e h f = rw e (subst Ends (sym (append-nil fs)) (h f))

  read_ends : (s : State) {r : TxRead} → (s ≡ TxStreamSentEndOfStream → Ends fs) → Passed s q c ps ss r → EndsAfter s r
  unfolding keyed_up
  read_ends s h (none_waits off w) = stands s _ (no_frame_lem (transmission_of s) _ refl) h
  read_ends s h (held_back off w a) = stands s _ (no_frame_lem (transmission_of s) _ refl) h
  read_ends s h (is_keyed_up off w a) = other (pick_all (λ (k : State). is_sent k ≡ false) q.streams.pending TxStream TxPacket (λ u. refl) (λ u. refl))
  read_ends s h (in_stream e n) = subst (λ (k : State). EndsAfter k (stream_read q c (read_next q.streams ss))) (sym e) (by_answer (read_next q.streams ss).answer (read_next q.streams ss) refl)
  read_ends s h (stream_over e) = other {s = TxEnding} refl
  read_ends s h (is_in_packets e n) = other (after_packet-other (next_piece q.packets ps).answer)
  read_ends s h (ending on) = stands s _ (no_frame_lem (transmission_of s) _ refl) h

-- ---- any call

-- a history that reads nothing more
quiet : (fs : List StreamFrame) (w : World) (c : Call) → Sound w → Reads c ≡ false → (Sent w.tnc → Ends fs) → Sent (after w c).tnc → Ends (fs ++ [])
quiet fs w c s r h e = subst Ends (sym (append-nil fs)) (h (begun_by_reads TxStreamSentEndOfStream refl (λ n f. other {s = TxEndingAtTime n} refl f) w c s r e))

step : (fs : List StreamFrame) (w : World) (c : Call) → Sound w → (Sent w.tnc → Ends fs) → Sent (after w c).tnc → Ends (fs ++ read_in in_streams w c)
unfolding after read_in
step fs w (write_kiss buf) s = quiet fs w (write_kiss buf) s refl
step fs w (read_kiss target) s = quiet fs w (read_kiss target) s refl
step fs w (handle_lsf lsf) s = quiet fs w (handle_lsf lsf) s refl
step fs w (handle_packet f) s = quiet fs w (handle_packet f) s refl
step fs w (handle_stream f) s = quiet fs w (handle_stream f) s refl
step fs w (set_data_carrier_detect dcd) s = quiet fs w (set_data_carrier_detect dcd) s refl
step fs w (set_now samples) s = quiet fs w (set_now samples) s refl
step fs w (set_tx_end_time samples) s = quiet fs w (set_tx_end_time samples) s refl
step fs w ptt s = quiet fs w ptt s refl
step fs w read_tx_frame s =
    λ h. let x = tx w in let e = tx_sound w s in
    subst (λ (r : TncTx). Sent r.tnc → Ends (fs ++ in_streams (transmission_of x.state) r)) (gives_as w s)
    (read_ends w.tnc x.sending x.channel x.packets x.streams fs x.state h
    (sound_outcome x.sending x.channel x.packets x.streams x.state e.its_packets e.its_streams e.its_state))

pub sent_ends : (fs : List StreamFrame) (w : World) (cs : List Call) → AllTyped cs → Sound w → (Sent w.tnc → Ends fs) → Sent (run w cs).tnc → Ends (fs ++ over_all (read_in in_streams) w cs)
unfolding over_all run AllTyped
sent_ends fs w [] d s h e = subst Ends (sym (append-nil fs)) (h e)
sent_ends fs w (c ∷ cs) d s h e =
    subst Ends (append_assoc fs (read_in in_streams w c) (over_all (read_in in_streams) (after w c) cs))
    (sent_ends (fs ++ read_in in_streams w c) (after w c) cs d.1 (sound_stays_sound w c d.0 s) (step fs w c s h) e)
