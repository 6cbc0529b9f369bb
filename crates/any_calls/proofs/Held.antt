-- In a packet transmission a place of the queue is held, over any calls. Assumes nothing.
use Prim.{Unit}
use Prim.Native.Nat.{ℕ}
use mathlib.Core.Bool.{Bool, true, false, not, false≢true}
use mathlib.Core.Path.{◌≡◌, refl, sym, ap, ◌∙◌, subst}
use mathlib.Core.Logic.{◌≢◌}
use mathlib.Core.List.{List, [], ◌∷◌}
use native.Mathlib.Omega.{arith}
use Rattle.choice.specs.Pick.{pick, pick_all}
use Rattle.channel.specs.declared.Channel.{Channel}
use Rattle.packets.specs.declared.PacketQueue.{PacketQueue}
use Rattle.std.specs.Prelude.{Result, Ok, Err, Option, Some, None}
use Rattle.room.specs.declared.LentError.{LentError}
use Rattle.room.specs.declared.LentError.TheVariants.{WrongStore, OutOfBounds}
use Rattle.protocol.specs.declared.ModulatorFrame.{ModulatorFrame}
use Rattle.protocol.specs.declared.ModulatorFrame.TheVariants.{Preamble, Lsf, Stream, Packet, EndOfTransmission}
use Rattle.packets.specs.Promises.{of_packets}
use Rattle.packets.proofs.Kept.{gives_packets}
use Rattle.packets.specs.Frames.{setup, piece}
use Rattle.packets.specs.Queue.{is_empty, read_next, read_number, frames_in}
use Rattle.packet_rule.proofs.Walked.{one_is_some}
use Rattle.packet_rule.proofs.Held.{push_never_empties, frame_keeps_its_place, held_is_answered}
use Rattle.streams.specs.declared.StreamQueue.{StreamQueue}
use Rattle.streams.specs.Queue.{read_next as next_frame}
use Rattle.sending.specs.declared.Sending.{Sending}
use Rattle.sending.specs.Sending.{wants_to_send}
use Rattle.state.specs.declared.State.{State}
use Rattle.state.specs.declared.State.TheVariants.{Idle, RxAcquiringStream, RxStream, RxPacket, TxStream, TxStreamSentEndOfStream, TxPacket, TxEnding, TxEndingAtTime}
use Rattle.host_frame.specs.Promises.{Box as HostBox}
use Rattle.tx_frame.specs.declared.TxRead.{TxRead}
use Rattle.tx_begin.specs.Begin.{keyed_up}
use Rattle.tx_stream.specs.Stream.{after_stream}
use Rattle.tx_packet.specs.Packet.{after_packet}
use Rattle.tnc_modulator.proofs.Outcomes.{Passed, none_waits, held_back, is_keyed_up, in_stream, stream_over, is_in_packets, ending, sound_outcome}
use Rattle.tnc_transmit.specs.declared.TncTx.{TncTx}
use Rattle.any_calls.specs.Calls.{World, Call, write_kiss, read_kiss, handle_lsf, handle_packet, handle_stream, set_data_carrier_detect, set_now, set_tx_end_time, ptt, read_tx_frame, lsf_in, packet_in, stream_in, after, run}
use Rattle.any_calls.specs.Promises.{AllTyped, Sound}
use Rattle.any_calls.proofs.Kept.{tx, tx_sound, sound_stays_sound}
use Rattle.any_calls.proofs.Begun.{Reads, begun_by_reads}
use Rattle.any_calls.proofs.Flow as flow
use Rattle.any_calls.proofs.Packets.{gives_as}

-- a packet transmission, told from the other states
abbrev pub is_packet : State → Bool
is_packet Idle = false
is_packet (RxAcquiringStream mask) = false
is_packet (RxStream expected) = false
is_packet (RxPacket count) = false
is_packet TxStream = false
is_packet TxStreamSentEndOfStream = false
is_packet TxPacket = true
is_packet TxEnding = false
is_packet (TxEndingAtTime end) = false

other : {A : Type 0} {s : State} → is_packet s ≡ false → s ≡ TxPacket → A
other e f = absurd (false≢true (sym e ∙ ap is_packet f))

abbrev pub Held : World → Type 0
Held w = w.tnc.radio.state ≡ TxPacket → is_empty w.tnc.sending.packets ≡ false

-- ---- calls that read nothing for the modulator: a queue that holds a place holds one then

abbrev nothing : PacketQueue → StreamQueue → List ℕ → List ℕ → List (Unit {0})
nothing q s packets streams = []

abbrev holds : PacketQueue → StreamQueue → Type 0
holds q s = is_empty q ≡ false

abbrev none : HostBox → List ℕ → List (Unit {0})
none x f = []

still : (w : World) (c : Call) → Sound w → Reads c ≡ false → is_empty w.tnc.sending.packets ≡ false → is_empty (after w c).tnc.sending.packets ≡ false
unfolding after
still w (write_kiss buf) s r =
    flow.write_known nothing holds none none none (λ x f h e. (refl, (push_never_empties x.host.sending.packets x.packets f e).0))
    (λ x f h e. (refl, (push_never_empties x.host.sending.packets x.packets f e).1)) (λ x f h e. (refl, e)) w buf s
still w (read_kiss target) s r = (flow.read_same nothing holds w target).1
still w (handle_lsf lsf) s r = (flow.heard-same nothing holds w (lsf_in w lsf)).1
still w (handle_packet f) s r = (flow.heard-same nothing holds w (packet_in w f)).1
still w (handle_stream f) s r = (flow.heard-same nothing holds w (stream_in w f)).1
still w (set_data_carrier_detect dcd) s r = λ e. e
still w (set_now samples) s r = (flow.now_same nothing holds w samples).1
still w (set_tx_end_time samples) s r = (flow.end_same nothing holds w samples).1
still w ptt s r = λ e. e
still w read_tx_frame s r = absurd (false≢true (sym r))

-- ---- a read

-- what an answer leaves a packet transmission with: a frame of a place that is held
frame_given : (a : Result (Option ModulatorFrame) LentError) → a ≢ Ok None → ((f : ModulatorFrame) → a ≡ Ok (Some f) → of_packets f ≡ true) → read_number a ≡ 0
    → after_packet a ≡ TxPacket → frames_in a ≢ []
frame_given (Ok None) n g ok p = absurd (n refl)
frame_given (Ok (Some (Preamble delay))) n g ok p = absurd (false≢true (g (Preamble delay) refl))
frame_given (Ok (Some (Lsf lsf))) n g ok p = one_is_some (setup lsf.0)
frame_given (Ok (Some (Stream frame))) n g ok p = absurd (false≢true (g (Stream frame) refl))
frame_given (Ok (Some (Packet frame))) n g ok p = one_is_some (piece frame)
frame_given (Ok (Some EndOfTransmission)) n g ok p = other {s = TxEnding} refl p
frame_given (Err WrongStore) n g ok p = absurd (omega (arith, ok))
frame_given (Err OutOfBounds) n g ok p = absurd (omega (arith, ok))

no_packet_lem : (a : Result (Option ModulatorFrame) LentError) → is_packet (after_stream a) ≡ false
no_packet_lem (Ok None) = refl
no_packet_lem (Ok (Some (Preamble delay))) = refl
no_packet_lem (Ok (Some (Lsf lsf))) = refl
no_packet_lem (Ok (Some (Stream frame))) =
    pick_all (λ (k : State). is_packet k ≡ false) frame.end_of_stream TxStreamSentEndOfStream TxStream (λ t. refl) (λ t. refl)
no_packet_lem (Ok (Some (Packet frame))) = refl
no_packet_lem (Ok (Some EndOfTransmission)) = refl
no_packet_lem (Err e) = refl

-- with no LSF pending it is a packet that somebody wants to send
packet_wanted : (q : Sending) → wants_to_send q ≡ true → pick q.streams.pending TxStream TxPacket ≡ TxPacket → is_empty q.packets ≡ false
unfolding wants_to_send pick
packet_wanted q w e = by q.streams.pending (is_empty q.packets) w e
  where
    by : (pending empty : Bool) → pick pending true (not empty) ≡ true → pick pending TxStream TxPacket ≡ TxPacket → empty ≡ false
    by true empty t f = other {s = TxStream} refl f
    by false true t f = absurd (false≢true t)
    by false false t f = refl

module _ (q : Sending) (c : Channel) (ps ss : List ℕ) where
  abbrev HeldAfter : TxRead → Type 0
  HeldAfter r = r.state ≡ TxPacket → is_empty r.sending.packets ≡ false

  read_holds : (s : State) {r : TxRead} → (s ≡ TxPacket → is_empty q.packets ≡ false) → Passed s q c ps ss r → HeldAfter r
  unfolding keyed_up
  read_holds s h (none_waits off w) = h
  read_holds s h (held_back off w a) = h
  read_holds s h (is_keyed_up off w a) = packet_wanted q w
  read_holds s h (in_stream e n) = other (no_packet_lem (next_frame q.streams ss).answer)
  read_holds s h (stream_over e) = other {s = TxEnding} refl
  read_holds s h (is_in_packets e n) =
      let r = read_next q.packets ps in
      λ p. frame_keeps_its_place q.packets ps (frame_given r.answer (held_is_answered q.packets ps (h e)) (gives_packets q.packets ps) n p)
  read_holds s h (ending on) = h

-- ---- any calls

kept : (w : World) (c : Call) → Sound w → Reads c ≡ false → Held w → Held (after w c)
kept w c s r h p = still w c s r (h (begun_by_reads TxPacket refl (λ n f. other {s = TxEndingAtTime n} refl f) w c s r p))

step : (w : World) (c : Call) → Sound w → Held w → Held (after w c)
unfolding after
step w read_tx_frame s h =
    let x = tx w in let e = tx_sound w s in
    subst (λ (r : TncTx). r.tnc.radio.state ≡ TxPacket → is_empty r.tnc.sending.packets ≡ false) (gives_as w s)
    (read_holds x.sending x.channel x.packets x.streams x.state h
    (sound_outcome x.sending x.channel x.packets x.streams x.state e.its_packets e.its_streams e.its_state))
step w (write_kiss buf) s h = kept w (write_kiss buf) s refl h
step w (read_kiss target) s h = kept w (read_kiss target) s refl h
step w (handle_lsf lsf) s h = kept w (handle_lsf lsf) s refl h
step w (handle_packet f) s h = kept w (handle_packet f) s refl h
step w (handle_stream f) s h = kept w (handle_stream f) s refl h
step w (set_data_carrier_detect dcd) s h = kept w (set_data_carrier_detect dcd) s refl h
step w (set_now samples) s h = kept w (set_now samples) s refl h
step w (set_tx_end_time samples) s h = kept w (set_tx_end_time samples) s refl h
step w ptt s h = kept w ptt s refl h

pub held : (w : World) (cs : List Call) → AllTyped cs → Sound w → Held w → Held (run w cs)
unfolding run AllTyped
held w [] d s h = h
held w (c ∷ cs) d s h = held (after w c) cs d.1 (sound_stays_sound w c d.0 s) (step w c s h)
