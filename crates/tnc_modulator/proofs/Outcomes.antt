-- The outcomes of a read, one constructor each. Assumes nothing.
use Prim.Native.Nat.{ℕ}
use mathlib.Core.Bool.{Bool, true, false}
use mathlib.Core.List.{List}
use mathlib.Core.Path.{◌≡◌, refl}
use native.Mathlib.Omega.{arith}
use borrow.Author.Tests.{eqb-true, eq-eqb}
use lib.Dec.{eqb}
use lib.ListN.{length}
use Rattle.choice.specs.Pick.{pick, and, and_fst, and_snd}
use Rattle.channel.specs.declared.Channel.{Channel}
use Rattle.std.specs.Prelude.{Result, Ok, Err, Option, Some, None}
use Rattle.channel.specs.declared.Access.TheVariants.{Waits, Sends}
use Rattle.channel.specs.declared.Access.{Access}
use Rattle.channel.specs.declared.ChannelError.{ChannelError}
use Rattle.channel.specs.declared.ChannelError.TheVariants.{OutOfRange, OutOfBounds as NoAccess}
use Rattle.channel.specs.Access.{sound_channel, accessed, access_number}
use Rattle.state.specs.declared.State.{State}
use Rattle.state.specs.declared.State.TheVariants.{Idle, RxAcquiringStream, RxStream, RxPacket, TxStream, TxStreamSentEndOfStream, TxPacket, TxEnding, TxEndingAtTime}
use Rattle.state.specs.State.{transmits, transmission_of, sound_state}
use Rattle.packets.specs.Queue.{sound_queue as sound_packets, read_next as next_piece, read_number as piece_number}
use Rattle.streams.specs.Queue.{sound_queue as sound_streams, read_next as next_frame, read_number as frame_number}
use Rattle.sending.specs.declared.Sending.{Sending}
use Rattle.sending.specs.Sending.{sound_sending, wants_to_send}
use Rattle.room.specs.declared.LentError.{LentError}
use Rattle.room.specs.declared.LentError.TheVariants.{WrongStore, OutOfBounds}
use Rattle.protocol.specs.declared.ModulatorFrame.{ModulatorFrame}
use Rattle.protocol.specs.declared.ModulatorFrame.TheVariants.{EndOfTransmission}
use Rattle.tx_frame.specs.declared.TxRead.{TxRead}
use Rattle.tx_frame.specs.Frame.{unfilled}
use Rattle.tx_begin.specs.Begin.{keyed_up, allowed, begun}
use Rattle.tx_stream.specs.Stream.{stream_read, stream_given}
use Rattle.tx_packet.specs.Packet.{packet_read, packet_given}
use Rattle.tnc_modulator.specs.Modulator.{PACKETS, STREAMS, all_sound, given, tx_read}
use Rattle.tnc_modulator.proofs.Callees.{access_answered, stream-answered, packets_answered}

-- what is within bounds
module _ (s : State) (q : Sending) (c : Channel) (e : all_sound s q c ≡ true) where
  pub sound_state_lem : sound_state s ≡ true
  unfolding all_sound
  sound_state_lem = and_fst _ _ e

  pub sound_sending_lem : sound_sending q ≡ true
  unfolding all_sound
  sound_sending_lem = and_fst _ _ (and_snd _ _ e)

  pub sound_packets_lem : sound_packets q.packets ≡ true
  unfolding sound_sending
  sound_packets_lem = and_fst _ _ sound_sending_lem

  pub sound_streams_lem : sound_streams q.streams ≡ true
  unfolding sound_sending
  sound_streams_lem = and_snd _ _ sound_sending_lem

  pub sound_channel_lem : sound_channel c ≡ true
  unfolding all_sound
  sound_channel_lem = and_snd _ _ (and_snd _ _ e)

-- a read behind the tests
pub data Passed (s : State) (q : Sending) (c : Channel) (ps ss : List ℕ) : TxRead → Type 0 where
  none_waits : transmits s ≡ false → wants_to_send q ≡ false → Passed s q c ps ss (unfilled (Ok None) s q c)
  held_back : transmits s ≡ false → wants_to_send q ≡ true → (accessed c).answer ≡ (Ok Waits) → Passed s q c ps ss (unfilled (Ok None) s q (accessed c).channel)
  is_keyed_up : transmits s ≡ false → wants_to_send q ≡ true → (accessed c).answer ≡ (Ok Sends) → Passed s q c ps ss (keyed_up q (accessed c).channel)
  in_stream : s ≡ TxStream → frame_number (next_frame q.streams ss).answer ≡ 0 → Passed s q c ps ss (stream_read q c (next_frame q.streams ss))
  stream_over : s ≡ TxStreamSentEndOfStream → Passed s q c ps ss (unfilled (Ok (Some EndOfTransmission)) TxEnding q c)
  is_in_packets : s ≡ TxPacket → piece_number (next_piece q.packets ps).answer ≡ 0 → Passed s q c ps ss (packet_read q c (next_piece q.packets ps))
  ending : transmits s ≡ true → Passed s q c ps ss (unfilled (Ok None) s q c)

-- refusals
pub data Refusal : Result (Option ModulatorFrame) LentError → Type 0 where
  wrong_store : Refusal (Err WrongStore)
  out_of_bounds : Refusal (Err OutOfBounds)

pub data Given (s : State) (q : Sending) (c : Channel) (ps ss : List ℕ) : TxRead → Type 0 where
  refused : {a : Result (Option ModulatorFrame) LentError} → Refusal a → Given s q c ps ss (unfilled a s q c)
  passed : {r : TxRead} → Passed s q c ps ss r → Given s q c ps ss r

module _ (q : Sending) (c : Channel) (ps ss : List ℕ) where
  begun-passed : (s : State) → transmits s ≡ false → sound_channel c ≡ true → Passed s q c ps ss (begun s q c)
  unfolding begun pick
  begun-passed s off e = by (wants_to_send q) refl
    where
      access : wants_to_send q ≡ true → (a : Result Access ChannelError) → (accessed c).answer ≡ a → access_number a ≡ 0 → Passed s q c ps ss (allowed a s q (accessed c).channel)
      access w (Ok Sends) f n = is_keyed_up off w f
      access w (Ok Waits) f n = held_back off w f
      access w (Err OutOfRange) f n = absurd (omega (arith, n))
      access w (Err NoAccess) f n = absurd (omega (arith, n))

      by : (t : Bool) → wants_to_send q ≡ t → Passed s q c ps ss (pick t (allowed (accessed c).answer s q (accessed c).channel) (unfilled (Ok None) s q c))
      by true w = access w (accessed c).answer refl (access_answered c e)
      by false w = none_waits off w

  given-passed : (s : State) → length ps ≡ PACKETS → length ss ≡ STREAMS → all_sound s q c ≡ true → Passed s q c ps ss (given (transmission_of s) s q c ps ss)
  unfolding stream_given packet_given
  given-passed Idle l m e = begun-passed Idle refl (sound_channel_lem Idle q c e)
  given-passed (RxAcquiringStream mask) l m e = begun-passed (RxAcquiringStream mask) refl (sound_channel_lem (RxAcquiringStream mask) q c e)
  given-passed (RxStream expected) l m e = begun-passed (RxStream expected) refl (sound_channel_lem (RxStream expected) q c e)
  given-passed (RxPacket count) l m e = begun-passed (RxPacket count) refl (sound_channel_lem (RxPacket count) q c e)
  given-passed TxStream l m e = in_stream refl (stream-answered q.streams ss m (sound_streams_lem TxStream q c e))
  given-passed TxStreamSentEndOfStream l m e = stream_over refl
  given-passed TxPacket l m e = is_in_packets refl (packets_answered q.packets ps l (sound_packets_lem TxPacket q c e))
  given-passed TxEnding l m e = ending refl
  given-passed (TxEndingAtTime end) l m e = ending refl

  pub sound_outcome : (s : State) → length ps ≡ PACKETS → length ss ≡ STREAMS → all_sound s q c ≡ true → Passed s q c ps ss (tx_read s q c ps ss)
  unfolding tx_read pick and
  sound_outcome s l m e = rw (eq-eqb (length ps) PACKETS l, eq-eqb (length ss) STREAMS m, e) (given-passed s l m e)

  pub outcome : (s : State) → Given s q c ps ss (tx_read s q c ps ss)
  unfolding tx_read pick
  outcome s = stores (and (eqb (length ps) PACKETS) (eqb (length ss) STREAMS)) refl
    where
      bounds : length ps ≡ PACKETS → length ss ≡ STREAMS → (t : Bool) → all_sound s q c ≡ t
          → Given s q c ps ss (pick t (given (transmission_of s) s q c ps ss) (unfilled (Err OutOfBounds) s q c))
      bounds l m true e = passed (given-passed s l m e)
      bounds l m false e = refused out_of_bounds

      stores : (t : Bool) → and (eqb (length ps) PACKETS) (eqb (length ss) STREAMS) ≡ t
          → Given s q c ps ss (pick t (pick (all_sound s q c) (given (transmission_of s) s q c ps ss) (unfilled (Err OutOfBounds) s q c)) (unfilled (Err WrongStore) s q c))
      stores true e = bounds (eqb-true (length ps) PACKETS (and_fst _ _ e)) (eqb-true (length ss) STREAMS (and_snd _ _ e)) (all_sound s q c) refl
      stores false e = refused wrong_store
