-- The promises of specs/Promises.antt are kept. Assumes nothing.
use Prim.Native.Nat.{ℕ}
use mathlib.Core.Bool.{Bool, true, false, false≢true}
use mathlib.Core.Logic.{◌≢◌}
use mathlib.Core.Path.{◌≡◌, refl, sym, ap, ◌∙◌}
use native.Mathlib.Omega.{arith}
use borrow.Author.Tests.{eq-eqb}
use lib.ListN.{length}
use Rattle.choice.specs.Pick.{pick, and, pick_all, and_both}
use Rattle.channel.specs.declared.Channel.{Channel}
use Rattle.std.specs.Prelude.{Result, Ok, Err, Option, Some, None}
use Rattle.channel.specs.declared.Access.TheVariants.{Sends, Waits}
use Rattle.channel.specs.declared.Access.{Access}
use Rattle.channel.specs.declared.ChannelError.{ChannelError}
use Rattle.channel.specs.Access.{sound_channel, accessed}
use Rattle.channel.proofs.Kept.{sound_stays_sound as channel_sound, carrier_holds_back as carrier_holds}
use Rattle.state.specs.declared.State.{State}
use Rattle.state.specs.declared.State.TheVariants.{TxStream, TxStreamSentEndOfStream, TxPacket, TxEnding}
use Rattle.state.specs.declared.Transmission.{Transmission}
use Rattle.state.specs.declared.Transmission.TheVariants.{Stream as InStream, StreamSent, Ending}
use Rattle.state.specs.State.{transmits, transmission_of, sound_state}
use Rattle.packets.specs.declared.PacketRead.{PacketRead}
use Rattle.room.specs.declared.LentError.{LentError}
use Rattle.protocol.specs.declared.StreamFrame.{StreamFrame}
use Rattle.protocol.specs.declared.ModulatorFrame.{ModulatorFrame}
use Rattle.protocol.specs.declared.ModulatorFrame.TheVariants.{Preamble, Lsf, Stream, Packet, EndOfTransmission}
use Rattle.packets.specs.Promises.{of_packets}
use Rattle.streams.specs.Promises.{of_streams}
use Rattle.packets.specs.Queue.{is_empty, read_next as next_piece, read_number as piece_number}
use Rattle.packets.proofs.Kept.{gives_packets, sound_stays_sound as packets_sound}
use Rattle.streams.specs.declared.StreamRead.{StreamRead}
use Rattle.streams.specs.Queue.{read_next as next_frame, read_number as frame_number}
use Rattle.streams.proofs.Kept.{gives_streams, sound_stays_sound as streams_sound}
use Rattle.sending.specs.declared.Sending.{Sending}
use Rattle.sending.specs.Sending.{sound_sending, wants_to_send}
use Rattle.tx_frame.specs.declared.TxRead.{TxRead}
use Rattle.tx_begin.specs.Begin.{keyed_up}
use Rattle.tx_stream.specs.Stream.{after_stream, with_streams, stream_given}
use Rattle.tx_packet.specs.Packet.{after_packet, with_packets}
use Rattle.tnc_modulator.specs.Modulator.{PACKETS, STREAMS, all_sound, given, tx_read, tx_number, kind_number}
use Rattle.tnc_modulator.specs.Promises.{Box, read_of, afterwards, after_read, RefusedKeepsAll, Sound, SoundIsAnswered, SoundStaysSound, PttFollows, PreambleHasTheDelay, CarrierHoldsBack, KeysUp, NothingToSendKeysNothing, LsfBeforePackets, PacketsBegin, Spent, stream_spent, packets_spent, EndOnlyWhenSpent, EndAfterTheLast, NothingAfterTheEnd, QueuesStand, fields_of, only, UnusedIsZero}
use Rattle.tnc_modulator.proofs.Outcomes.{sound_state_lem, sound_sending_lem, sound_packets_lem, sound_streams_lem, sound_channel_lem, Passed, none_waits, held_back, is_keyed_up, in_stream, stream_over, is_in_packets, ending, Refusal, wrong_store, out_of_bounds, Given, refused, passed, sound_outcome, outcome}

-- ---- the answers of the two queues, told apart

stream-number : (a : Result (Option ModulatorFrame) LentError) → tx_number a ≡ frame_number a
stream-number (Ok frame) = refl
stream-number (Err e) = refl

packet_number : (a : Result (Option ModulatorFrame) LentError) → tx_number a ≡ piece_number a
packet_number (Ok frame) = refl
packet_number (Err e) = refl

-- what holds of both states that a stream transmission may be left in
stream_states : (P : State → Type 0) → P TxStream → P TxStreamSentEndOfStream → (a : Result (Option ModulatorFrame) LentError) → P (after_stream a)
stream_states P p q (Ok None) = p
stream_states P p q (Ok (Some (Preamble delay))) = p
stream_states P p q (Ok (Some (Lsf lsf))) = p
stream_states P p q (Ok (Some (Stream frame))) = pick_all P frame.end_of_stream TxStreamSentEndOfStream TxStream (λ _. q) (λ _. p)
stream_states P p q (Ok (Some (Packet frame))) = p
stream_states P p q (Ok (Some EndOfTransmission)) = p
stream_states P p q (Err e) = p

packet_states : (P : State → Type 0) → P TxPacket → P TxEnding → (a : Result (Option ModulatorFrame) LentError) → P (after_packet a)
packet_states P p q (Ok None) = p
packet_states P p q (Ok (Some (Preamble delay))) = p
packet_states P p q (Ok (Some (Lsf lsf))) = p
packet_states P p q (Ok (Some (Stream frame))) = p
packet_states P p q (Ok (Some (Packet frame))) = p
packet_states P p q (Ok (Some EndOfTransmission)) = q
packet_states P p q (Err e) = p

refusal_kind : {a : Result (Option ModulatorFrame) LentError} → Refusal a → kind_number a ≡ 0
refusal_kind wrong_store = refl
refusal_kind out_of_bounds = refl

-- what each queue gives
abbrev frame_of : Box → StreamRead
frame_of x = next_frame x.sending.streams x.streams

abbrev piece_of : Box → PacketRead
piece_of x = next_piece x.sending.packets x.packets

-- neither gives what is not of its transmission
no_stream_frame : (x : Box) (f : ModulatorFrame) → of_streams f ≡ false → (frame_of x).answer ≢ Ok (Some f)
no_stream_frame x f n e = false≢true (sym n ∙ gives_streams (record { queue = x.sending.streams; store = x.streams }) f e)

no_packet_frame : (x : Box) (f : ModulatorFrame) → of_packets f ≡ false → (piece_of x).answer ≢ Ok (Some f)
no_packet_frame x f n e = false≢true (sym n ∙ gives_packets x.sending.packets x.packets f e)

-- PTT is on in one state and off in the same
both : {A : Type 0} {b : Bool} → b ≡ true → b ≡ false → A
both on off = absurd (false≢true (sym off ∙ on))

module _ (x : Box) where
  abbrev Passes : TxRead → Type 0
  Passes r = Passed x.state x.sending x.channel x.packets x.streams r

  abbrev Reads : TxRead → Type 0
  Reads r = Given x.state x.sending x.channel x.packets x.streams r

  its_outcome : Reads (read_of x)
  its_outcome = outcome x.sending x.channel x.packets x.streams x.state

  sound_passed : Sound x → Passes (read_of x)
  sound_passed s = sound_outcome x.sending x.channel x.packets x.streams x.state s.its_packets s.its_streams s.its_state

  -- what a sound box gives in a known state
  sound_given : Sound x → {t : Transmission} → transmission_of x.state ≡ t → given t x.state x.sending x.channel x.packets x.streams ≡ read_of x
  unfolding tx_read pick and
  sound_given s e =
      ap (λ (t : Transmission). given t x.state x.sending x.channel x.packets x.streams) (sym e)
      ∙ rw (eq-eqb (length x.packets) PACKETS s.its_packets, eq-eqb (length x.streams) STREAMS s.its_streams, s.its_state)

  -- ---- refusals

  passed-number : {r : TxRead} → Passes r → tx_number r.answer ≡ 0
  unfolding keyed_up
  passed-number (none_waits off w) = refl
  passed-number (held_back off w a) = refl
  passed-number (is_keyed_up off w a) = refl
  passed-number (in_stream e n) = stream-number (frame_of x).answer ∙ n
  passed-number (stream_over e) = refl
  passed-number (is_in_packets e n) = packet_number (piece_of x).answer ∙ n
  passed-number (ending on) = refl

pub refused_keeps_all : RefusedKeepsAll
refused_keeps_all x = by (its_outcome x)
  where
    by : {r : TxRead} → Reads x r → tx_number r.answer ≢ 0 → afterwards x r ≡ x
    by (refused w) f = refl
    by (passed p) f = absurd (f (passed-number x p))

pub sound_is_answered : SoundIsAnswered
sound_is_answered x s = passed-number x (sound_passed x s)

-- ---- the bounds

all_sound_lem : (s : State) (q : Sending) (c : Channel) → sound_state s ≡ true → sound_sending q ≡ true → sound_channel c ≡ true → all_sound s q c ≡ true
unfolding all_sound
all_sound_lem s q c e f g = and_both e (and_both f g)

module _ (x : Box) (h : Sound x) where
  abbrev q : Sending
  q = x.sending

  access_sound : sound_channel (accessed x.channel).channel ≡ true
  access_sound = (channel_sound x.channel (sound_channel_lem x.state q x.channel h.its_state)).by_access

  stream_sound : sound_sending (with_streams q (frame_of x).queue) ≡ true
  unfolding sound_sending
  stream_sound =
      let e = h.its_state in
      and_both (sound_packets_lem x.state q x.channel e)
      (streams_sound (record { queue = q.streams; store = x.streams }) (record { its_store = h.its_streams; its_state = sound_streams_lem x.state q x.channel e })).1.its_state

  packet_sound : sound_sending (with_packets q (piece_of x).queue) ≡ true
  unfolding sound_sending
  packet_sound =
      let e = h.its_state in
      and_both (packets_sound q.packets x.packets (record { its_store = h.its_packets; its_state = sound_packets_lem x.state q x.channel e })).1.its_state
      (sound_streams_lem x.state q x.channel e)

  passed_sound : {r : TxRead} → Passes x r → all_sound r.state r.sending r.channel ≡ true
  unfolding keyed_up
  passed_sound (none_waits off w) = h.its_state
  passed_sound (held_back off w a) = all_sound_lem x.state q (accessed x.channel).channel (sound_state_lem x.state q x.channel h.its_state) (sound_sending_lem x.state q x.channel h.its_state) access_sound
  passed_sound (is_keyed_up off w a) =
      all_sound_lem (keyed_up q (accessed x.channel).channel).state q (accessed x.channel).channel (pick_all (λ (s : State). sound_state s ≡ true) q.streams.pending TxStream TxPacket (λ _. refl) (λ _. refl))
      (sound_sending_lem x.state q x.channel h.its_state) access_sound
  passed_sound (in_stream e n) =
      all_sound_lem (after_stream (frame_of x).answer) (with_streams q (frame_of x).queue) x.channel (stream_states (λ s. sound_state s ≡ true) refl refl (frame_of x).answer) stream_sound (sound_channel_lem x.state q x.channel h.its_state)
  passed_sound (stream_over e) = all_sound_lem TxEnding q x.channel refl (sound_sending_lem x.state q x.channel h.its_state) (sound_channel_lem x.state q x.channel h.its_state)
  passed_sound (is_in_packets e n) =
      all_sound_lem (after_packet (piece_of x).answer) (with_packets q (piece_of x).queue) x.channel (packet_states (λ s. sound_state s ≡ true) refl refl (piece_of x).answer) packet_sound (sound_channel_lem x.state q x.channel h.its_state)
  passed_sound (ending on) = h.its_state

pub sound_stays_sound : SoundStaysSound
sound_stays_sound x h = record { its_packets = h.its_packets; its_streams = h.its_streams; its_state = passed_sound x h (sound_passed x h) }

-- ---- preambles

module _ (x : Box) where
  -- a read that is answered with a preamble
  pub record Begins (r : TxRead) : Type 0 where
    pub off : transmits x.state ≡ false
    pub leave : (accessed x.channel).answer ≡ (Ok Sends)
    pub is : r ≡ keyed_up x.sending (accessed x.channel).channel

  begins : {delay : ℕ} {r : TxRead} → Reads x r → r.answer ≡ Ok (Some (Preamble delay)) → Begins r
  begins (refused w) e = absurd (omega (arith, refusal_kind w, ap kind_number e))
  begins (passed (none_waits off w)) e = absurd (omega (arith, ap kind_number e))
  begins (passed (held_back off w a)) e = absurd (omega (arith, ap kind_number e))
  begins (passed (is_keyed_up off w a)) e = record { off = off; leave = a; is = refl }
  begins {delay} (passed (in_stream f n)) e = absurd (no_stream_frame x (Preamble delay) refl e)
  begins (passed (stream_over f)) e = absurd (omega (arith, ap kind_number e))
  begins {delay} (passed (is_in_packets f n)) e = absurd (no_packet_frame x (Preamble delay) refl e)
  begins (passed (ending on)) e = absurd (omega (arith, ap kind_number e))

  key_on : transmits (keyed_up x.sending (accessed x.channel).channel).state ≡ true
  unfolding keyed_up
  key_on = pick_all (λ (s : State). transmits s ≡ true) x.sending.streams.pending TxStream TxPacket (λ _. refl) (λ _. refl)

  ptt_stays : {r : TxRead} → Reads x r → transmits x.state ≡ true → transmits r.state ≡ true
  ptt_stays (refused w) on = on
  ptt_stays (passed (none_waits off w)) on = on
  ptt_stays (passed (held_back off w a)) on = on
  ptt_stays (passed (is_keyed_up off w a)) on = key_on
  ptt_stays (passed (in_stream f n)) on = stream_states (λ s. transmits s ≡ true) refl refl (frame_of x).answer
  ptt_stays (passed (stream_over f)) on = refl
  ptt_stays (passed (is_in_packets f n)) on = packet_states (λ s. transmits s ≡ true) refl refl (piece_of x).answer
  ptt_stays (passed (ending now)) on = on

  ptt_comes : {r : TxRead} → Reads x r → transmits x.state ≡ false → transmits r.state ≡ true → r.answer ≡ Ok (Some (Preamble x.sending.tx_delay))
  unfolding keyed_up
  ptt_comes (refused w) off on = both on off
  ptt_comes (passed (none_waits o w)) off on = both on off
  ptt_comes (passed (held_back o w a)) off on = both on off
  ptt_comes (passed (is_keyed_up o w a)) off on = refl
  ptt_comes (passed (in_stream f n)) off on = both (ap transmits f) off
  ptt_comes (passed (stream_over f)) off on = both (ap transmits f) off
  ptt_comes (passed (is_in_packets f n)) off on = both (ap transmits f) off
  ptt_comes (passed (ending now)) off on = both now off

pub ptt_follows : PttFollows
ptt_follows x =
    record {
      stays = ptt_stays x (its_outcome x);
      comes = ptt_comes x (its_outcome x);
      keyed = λ delay e. let b = begins x (its_outcome x) e in (b.off, ap (λ (r : TxRead). transmits r.state) b.is ∙ key_on x);
    }

-- the delay of a preamble
delay_of : Result (Option ModulatorFrame) LentError → ℕ
delay_of (Ok (Some (Preamble delay))) = delay
delay_of (Ok (Some (Lsf lsf))) = 0
delay_of (Ok (Some (Stream frame))) = 0
delay_of (Ok (Some (Packet frame))) = 0
delay_of (Ok (Some EndOfTransmission)) = 0
delay_of (Ok None) = 0
delay_of (Err e) = 0

pub preamble_has_the_delay : PreambleHasTheDelay
unfolding keyed_up delay_of
preamble_has_the_delay x delay e = ap delay_of (sym e ∙ ap (λ (r : TxRead). r.answer) (begins x (its_outcome x) e).is)

pub carrier_holds_back : CarrierHoldsBack
carrier_holds_back x on d delay e = carrier_holds x.channel on d (begins x (its_outcome x) e).leave

pub lsf_before_packets : LsfBeforePackets
unfolding keyed_up pick
lsf_before_packets x p delay e = ap (λ (r : TxRead). r.state) (begins x (its_outcome x) e).is ∙ ap (λ (b : Bool). pick b TxStream TxPacket) p

pub packets_begin : PacketsBegin
unfolding keyed_up pick
packets_begin x p delay e = ap (λ (r : TxRead). r.state) (begins x (its_outcome x) e).is ∙ ap (λ (b : Bool). pick b TxStream TxPacket) p

may : Result Access ChannelError → Bool
may (Ok Sends) = true
may (Ok Waits) = false
may (Err e) = false

pub keys_up : KeysUp
unfolding keyed_up may
keys_up x h off w a = by (sound_passed x h)
  where
    by : {r : TxRead} → Passes x r → r.answer ≡ Ok (Some (Preamble x.sending.tx_delay))
    by (none_waits o n) = both w n
    by (held_back o n b) = both (ap may a) (ap may b)
    by (is_keyed_up o n b) = refl
    by (in_stream f n) = both (ap transmits f) off
    by (stream_over f) = both (ap transmits f) off
    by (is_in_packets f n) = both (ap transmits f) off
    by (ending on) = both on off

none_wants : (q : Sending) → q.streams.pending ≡ false → is_empty q.packets ≡ true → wants_to_send q ≡ false
unfolding wants_to_send pick
none_wants q p m = rw (p, m)

pub nothing_to_send_keys_nothing : NothingToSendKeysNothing
nothing_to_send_keys_nothing x h off p m = by (sound_passed x h)
  where
    by : {r : TxRead} → Passes x r → (r.answer ≡ Ok None) × (afterwards x r ≡ x)
    by (none_waits o w) = (refl, refl)
    by (held_back o w a) = both w (none_wants x.sending p m)
    by (is_keyed_up o w a) = both w (none_wants x.sending p m)
    by (in_stream f n) = both (ap transmits f) off
    by (stream_over f) = both (ap transmits f) off
    by (is_in_packets f n) = both (ap transmits f) off
    by (ending on) = both on off

-- ---- ends

pub end_only_when_spent : EndOnlyWhenSpent
unfolding keyed_up
end_only_when_spent x = by (its_outcome x)
  where
    by : {r : TxRead} → Reads x r → r.answer ≡ Ok (Some EndOfTransmission) → Spent x × (r.state ≡ TxEnding)
    by (refused w) e = absurd (omega (arith, refusal_kind w, ap kind_number e))
    by (passed (none_waits off w)) e = absurd (omega (arith, ap kind_number e))
    by (passed (held_back off w a)) e = absurd (omega (arith, ap kind_number e))
    by (passed (is_keyed_up off w a)) e = absurd (omega (arith, ap kind_number e))
    by (passed (in_stream f n)) e = absurd (no_stream_frame x EndOfTransmission refl e)
    by (passed (stream_over f)) e = (stream_spent f, refl)
    by (passed (is_in_packets f n)) e = (packets_spent f e, ap after_packet e)
    by (passed (ending on)) e = absurd (omega (arith, ap kind_number e))

-- a stream's frame leaves the stream under way or sent
frame_leaves : (x : Box) (frame : StreamFrame) {r : TxRead} → Reads x r → r.answer ≡ Ok (Some (Stream frame)) → r.state ≡ pick frame.end_of_stream TxStreamSentEndOfStream TxStream
unfolding keyed_up
frame_leaves x frame (refused w) e = absurd (omega (arith, refusal_kind w, ap kind_number e))
frame_leaves x frame (passed (none_waits off w)) e = absurd (omega (arith, ap kind_number e))
frame_leaves x frame (passed (held_back off w a)) e = absurd (omega (arith, ap kind_number e))
frame_leaves x frame (passed (is_keyed_up off w a)) e = absurd (omega (arith, ap kind_number e))
frame_leaves x frame (passed (in_stream f n)) e = ap after_stream e
frame_leaves x frame (passed (stream_over f)) e = absurd (omega (arith, ap kind_number e))
frame_leaves x frame (passed (is_in_packets f n)) e = absurd (no_packet_frame x (Stream frame) refl e)
frame_leaves x frame (passed (ending on)) e = absurd (omega (arith, ap kind_number e))

pub end_after_the_last : EndAfterTheLast
unfolding pick stream_given
end_after_the_last x h frame e =
    let after = frame_leaves x frame (its_outcome x) e in let y = after_read x in let s = sound_stays_sound x h in (
      λ t. let u : y.state ≡ TxStreamSentEndOfStream = after ∙ ap (λ (b : Bool). pick b TxStreamSentEndOfStream TxStream) t in
          ap (λ (r : TxRead). r.answer) (sym (sound_given y s {t = StreamSent} (ap transmission_of u))),
      λ t f. let u : y.state ≡ TxStream = after ∙ ap (λ (b : Bool). pick b TxStreamSentEndOfStream TxStream) t in
          no_stream_frame y EndOfTransmission refl (ap (λ (r : TxRead). r.answer) (sound_given y s {t = InStream} (ap transmission_of u)) ∙ f),
    )

pub nothing_after_the_end : NothingAfterTheEnd
nothing_after_the_end x h e =
    let y = after_read x in
    let n = sym (sound_given y (sound_stays_sound x h) {t = Ending} (ap transmission_of (end_only_when_spent x e).1)) in
    (ap (λ (r : TxRead). r.answer) n, ap (afterwards y) n)

-- ---- what a read leaves alone

packets_stand : (x : Box) {r : TxRead} → Reads x r → x.state ≢ TxPacket → r.sending.packets ≡ x.sending.packets
unfolding keyed_up
packets_stand x (refused w) f = refl
packets_stand x (passed (none_waits off w)) f = refl
packets_stand x (passed (held_back off w a)) f = refl
packets_stand x (passed (is_keyed_up off w a)) f = refl
packets_stand x (passed (in_stream e n)) f = refl
packets_stand x (passed (stream_over e)) f = refl
packets_stand x (passed (is_in_packets e n)) f = absurd (f e)
packets_stand x (passed (ending on)) f = refl

streams_stand : (x : Box) {r : TxRead} → Reads x r → x.state ≢ TxStream → r.sending.streams ≡ x.sending.streams
unfolding keyed_up
streams_stand x (refused w) f = refl
streams_stand x (passed (none_waits off w)) f = refl
streams_stand x (passed (held_back off w a)) f = refl
streams_stand x (passed (is_keyed_up off w a)) f = refl
streams_stand x (passed (in_stream e n)) f = absurd (f e)
streams_stand x (passed (stream_over e)) f = refl
streams_stand x (passed (is_in_packets e n)) f = refl
streams_stand x (passed (ending on)) f = refl

delay_stands : (x : Box) {r : TxRead} → Reads x r → r.sending.tx_delay ≡ x.sending.tx_delay
unfolding keyed_up
delay_stands x (refused w) = refl
delay_stands x (passed (none_waits off w)) = refl
delay_stands x (passed (held_back off w a)) = refl
delay_stands x (passed (is_keyed_up off w a)) = refl
delay_stands x (passed (in_stream e n)) = refl
delay_stands x (passed (stream_over e)) = refl
delay_stands x (passed (is_in_packets e n)) = refl
delay_stands x (passed (ending on)) = refl

pub queues_stand : QueuesStand
queues_stand x = record { packets = packets_stand x (its_outcome x); streams = streams_stand x (its_outcome x); delay = delay_stands x (its_outcome x) }

unused_zero : (a : Result (Option ModulatorFrame) LentError) → only a (fields_of a) ≡ fields_of a
unused_zero (Ok None) = refl
unused_zero (Ok (Some (Preamble delay))) = refl
unused_zero (Ok (Some (Lsf lsf))) = refl
unused_zero (Ok (Some (Stream frame))) = refl
unused_zero (Ok (Some (Packet frame))) = refl
unused_zero (Ok (Some EndOfTransmission)) = refl
unused_zero (Err e) = refl

pub unused_is_zero : UnusedIsZero
unused_is_zero x = unused_zero (read_of x).answer
