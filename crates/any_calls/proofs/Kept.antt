-- The promises of specs/Promises.antt are kept. Assumes nothing.
use Prim.Native.Nat.{ℕ, ◌+◌, ◌≤◌}
use mathlib.Core.Bool.{Bool, true}
use mathlib.Core.Path.{◌≡◌, refl, sym, ap, ◌∙◌, subst}
use mathlib.Core.List.{List, [], ◌∷◌}
use native.Mathlib.Omega.{arith}
use lib.Dec.{eqb, leb}
use lib.ListN.{length}
use borrow.Author.Tests.{eq-eqb}
use Rattle.choice.specs.Pick.{pick, pick_all, and_fst, and_snd, and_both}
use Rattle.channel.specs.declared.Channel.{Channel}
use Rattle.std.specs.Prelude.{Result, Ok, Err, Bool}
use Rattle.channel.specs.declared.ChannelError.{ChannelError}
use Rattle.channel.specs.declared.ChannelError.TheVariants.{OutOfRange as TooLate, OutOfBounds as NotSet}
use Rattle.room.specs.declared.LentError.{LentError}
use Rattle.channel.specs.declared.ChannelSet.{ChannelSet}
use Rattle.channel.specs.Access.{LAST, sound_channel, with_clock, is_set, clock_set, carrier_set, set_number}
use Rattle.channel.proofs.Kept as channel
use Rattle.kiss_calls.specs.Calls.{sound_buffer}
use Rattle.kiss_calls.proofs.Boxes.{new_sound}
use Rattle.packets.specs.Queue.{STORE as PACKETS}
use Rattle.streams.specs.Queue.{STORE as STREAMS}
use Rattle.radio.specs.Radio.{sound_radio, air_number}
use Rattle.state.specs.State.{transmits, time_reached, ending_at}
use Rattle.tnc_air.specs.Promises.{lsf, packet}
use Rattle.tnc_air.proofs.Kept as air
use Rattle.tnc_stream.proofs.Kept as stream
use Rattle.tnc_modulator.specs.Modulator.{all_sound, tx_number}
use Rattle.tnc_modulator.specs.Promises.{Box as TxBox, after_read, read_of, Sound as TxSound}
use Rattle.tnc_modulator.proofs.Kept as modulator
use Rattle.tnc_core.specs.declared.Tnc.{Tnc}
use Rattle.tnc_clock.specs.declared.Timed.{Timed}
use Rattle.tnc_core.specs.Tnc.{sound_tnc, ptt_of, with_state, ptt_number}
use Rattle.tnc_clock.specs.Clock.{FARTHEST, on_clock, now_set, end_time_set}
use Rattle.tnc_clock.specs.Promises.{Kept}
use Rattle.tnc_core.proofs.Bounds.{parts, joined}
use Rattle.tnc_core.proofs.Kept as core
use Rattle.tnc_clock.proofs.Kept as clock
use Rattle.tnc_transmit.specs.declared.TncTx.{TncTx}
use Rattle.tnc_transmit.specs.Calls.{not_given, put_given, tnc_tx}
use Rattle.any_calls.specs.Calls.{World, Call, write_kiss, read_kiss, handle_lsf, handle_packet, handle_stream, set_data_carrier_detect, set_now, set_tx_end_time, ptt, read_tx_frame, lsf_in, packet_in, stream_in, gives, with_both, after_timed, after, number, run}
use Rattle.any_calls.specs.Promises.{Sound, NewIsSound, AllTyped, SoundStaysSound, SoundIsAnswered, AnyCallsStaySound, RefusedKeepsAll}
use Rattle.any_calls.proofs.Host.{write_refused, write_sound, write_fine, read_refused, read_sound, read_fine}
use Rattle.any_calls.proofs.Air.{box, heard-refused, box_sound, heard_sound, heard_answer, lsf_fine, packet_fine, stream_fine}

pub new_is_sound : NewIsSound
new_is_sound reader packets streams rx message r p s x m =
    record {
      its_reader = r;
      its_packets = p;
      its_streams = s;
      its_rx = x;
      its_message = m;
      its_tnc = core.new_is_sound;
      its_buffer = (new_sound reader r).its_state;
      its_channel = channel.new_is_sound;
    }

-- ---- the clock and the carrier

with_both_lem : (w : World) (t : Tnc) (c : Channel) → Sound w → t.buffer ≡ w.tnc.buffer → sound_tnc t ≡ true → sound_channel c ≡ true → Sound (with_both w t c)
with_both_lem w t c s e k h =
    record {
      its_reader = s.its_reader;
      its_packets = s.its_packets;
      its_streams = s.its_streams;
      its_rx = s.its_rx;
      its_message = s.its_message;
      its_tnc = k;
      its_buffer = ap (λ b. sound_buffer b w.reader) e ∙ s.its_buffer;
      its_channel = h;
    }

timed-kept : (w : World) (r : Timed) → Kept w.tnc w.channel r → after_timed w r ≡ w
timed-kept w r k = λ i. with_both w (k.its_tnc i) (k.its_channel i)

-- the time changes the state at most
clock_leaves : (P : Tnc → Type 0) (a : (Result (Unit {0}) ChannelError)) (t : Tnc) (c : Channel) (n : ℕ) → P t → P (with_state t (time_reached t.radio.state n)) → P (on_clock a t c n).tnc
clock_leaves P (Ok tt) t c n p f = f
clock_leaves P (Err TooLate) t c n p f = p
clock_leaves P (Err NotSet) t c n p f = p

pub now_leaves : (P : Tnc → Type 0) (t : Tnc) (c : Channel) (n : ℕ) → P t → P (with_state t (time_reached t.radio.state n)) → P (now_set t c n).tnc
unfolding now_set
now_leaves P t c n p f =
    pick_all (λ (r : Timed). P r.tnc) (sound_tnc t) _ _ (λ u. clock_leaves P (clock_set c n).answer t (clock_set c n).channel n p f) (λ u. p)

pub end_leaves : (P : Tnc → Type 0) (t : Tnc) (c : Channel) (n : ℕ) → P t → P (with_state t (ending_at t.radio.state (c.clock + n))) → P (end_time_set t c n).tnc
unfolding end_time_set
end_leaves P t c n p f =
    pick_all (λ (r : Timed). P r.tnc) (sound_tnc t) _ _
    (λ u. pick_all (λ (r : Timed). P r.tnc) (sound_channel c) _ _ (λ v. pick_all (λ (r : Timed). P r.tnc) (leb n FARTHEST) _ _ (λ x. f) (λ x. p)) (λ v. p))
    (λ u. p)

SameBuffer : Tnc → Tnc → Type 0
SameBuffer t u = u.buffer ≡ t.buffer

now_buffer : (t : Tnc) (c : Channel) (n : ℕ) → (now_set t c n).tnc.buffer ≡ t.buffer
unfolding SameBuffer
now_buffer t c n = now_leaves (SameBuffer t) t c n refl refl

end_buffer : (t : Tnc) (c : Channel) (n : ℕ) → (end_time_set t c n).tnc.buffer ≡ t.buffer
unfolding SameBuffer
end_buffer t c n = end_leaves (SameBuffer t) t c n refl refl

-- not 7 and not 8
Fine : ℕ → Type 0
Fine n = (n ≡ 7 → ⊥) × (n ≡ 8 → ⊥)

fine : {n : ℕ} → n ≤ 6 → Fine n
unfolding Fine
fine h = (λ e. absurd (omega (arith, h, e)), λ e. absurd (omega (arith, h, e)))

clock_fine : (a : (Result (Unit {0}) ChannelError)) (t : Tnc) (c : Channel) (n : ℕ) → set_number a ≤ 6 → set_number (on_clock a t c n).answer ≤ 6
clock_fine (Ok tt) t c n h = h
clock_fine (Err TooLate) t c n h = h
clock_fine (Err NotSet) t c n h = h

now_fine : (t : Tnc) (c : Channel) (n : ℕ) → sound_tnc t ≡ true → sound_channel c ≡ true → set_number (now_set t c n).answer ≤ 6
unfolding now_set clock_set pick
now_fine t c n e s =
    rw (e, s) (clock_fine (pick (leb n LAST) (is_set (Ok tt) (with_clock c n)) (is_set (Err TooLate) c)).answer t _ n
    (pick_all (λ (r : ChannelSet). set_number r.answer ≤ 6) (leb n LAST) _ _ (λ u. omega arith) (λ u. omega arith)))

end_fine : (t : Tnc) (c : Channel) (n : ℕ) → sound_tnc t ≡ true → sound_channel c ≡ true → set_number (end_time_set t c n).answer ≤ 6
unfolding end_time_set pick
end_fine t c n e s = rw (e, s) (pick_all (λ (r : Timed). set_number r.answer ≤ 6) (leb n FARTHEST) _ _ (λ u. omega arith) (λ u. omega arith))

carrier_fine : (c : Channel) (b : Bool) → sound_channel c ≡ true → set_number (carrier_set c b).answer ≤ 6
unfolding carrier_set pick
carrier_fine c b s = rw s (omega arith)

ptt_fine : (t : Tnc) → sound_tnc t ≡ true → ptt_number (ptt_of t) ≤ 6
unfolding ptt_of pick
ptt_fine t e = rw e (omega arith)

-- ---- reads for the modulator

abbrev pub tx : World → TxBox
tx w = record { state = w.tnc.radio.state; sending = w.tnc.sending; channel = w.channel; packets = w.packets; streams = w.streams }

-- what holds of every refusal, and of what the read comes to in a sound TNC, holds of a read
pub each_given : (w : World) (Q : TncTx → Type 0) → ((e : LentError) → Q (not_given e w.tnc w.channel)) → (sound_tnc w.tnc ≡ true → Q (put_given w.tnc (read_of (tx w)))) → Q (gives w)
unfolding tnc_tx
each_given w Q f d =
    pick_all Q (eqb (length w.packets) PACKETS) _ _
    (λ p. pick_all Q (eqb (length w.streams) STREAMS) _ _ (λ q. pick_all Q (sound_tnc w.tnc) _ _ d (λ s. f _)) (λ q. f _))
    (λ p. f _)

-- the world with another state, other queues and another channel
abbrev with_tx : World → TxBox → World
with_tx w x =
    with_both w (record { buffer = w.tnc.buffer; sending = x.sending; radio = record { state = x.state; outgoing = w.tnc.radio.outgoing }; ptt = transmits x.state }) x.channel

same_tx : (w : World) → sound_tnc w.tnc ≡ true → with_tx w (tx w) ≡ w
same_tx w s = λ i. with_both w (record { buffer = w.tnc.buffer; sending = w.tnc.sending; radio = w.tnc.radio; ptt = sym (parts w.tnc s).its_ptt i }) w.channel

given-refused : (w : World) → (tx_number (gives w).answer ≡ 0 → ⊥) → with_both w (gives w).tnc (gives w).channel ≡ w
given-refused w =
    each_given w (λ r. (tx_number r.answer ≡ 0 → ⊥) → with_both w r.tnc r.channel ≡ w) (λ a n. refl)
    (λ s n. ap (with_tx w) (modulator.refused_keeps_all (tx w) n) ∙ same_tx w s)

module _ (w : World) (s : Sound w) where
  pub tx_sound : TxSound (tx w)
  unfolding all_sound sound_radio
  tx_sound =
      let p = parts w.tnc s.its_tnc in
      record { its_packets = s.its_packets; its_streams = s.its_streams; its_state = and_both (and_fst _ _ p.its_radio) (and_both p.its_sending s.its_channel) }

  with_tx_lem : (x : TxBox) → TxSound x → Sound (with_tx w x)
  unfolding all_sound sound_radio
  with_tx_lem x k =
      let p = parts w.tnc s.its_tnc in let a = and_snd _ _ k.its_state in
      with_both_lem w (with_tx w x).tnc x.channel s refl
      (joined (with_tx w x).tnc
      (record { its_filled = p.its_filled; its_sending = and_fst _ _ a; its_radio = and_both (and_fst _ _ k.its_state) (and_snd _ _ p.its_radio); its_ptt = refl }))
      (and_snd _ _ a)

  given_sound : Sound (with_both w (gives w).tnc (gives w).channel)
  given_sound = each_given w (λ r. Sound (with_both w r.tnc r.channel)) (λ a. s) (λ k. with_tx_lem (after_read (tx w)) (modulator.sound_stays_sound (tx w) tx_sound))

  given_fine : tx_number (gives w).answer ≤ 6
  unfolding tnc_tx pick
  given_fine =
      rw (eq-eqb (length w.packets) PACKETS s.its_packets, eq-eqb (length w.streams) STREAMS s.its_streams, s.its_tnc)
      (omega (arith, modulator.sound_is_answered (tx w) tx_sound))

-- ---- all calls

pub refused_keeps_all : RefusedKeepsAll
unfolding after number
refused_keeps_all w (write_kiss buf) n = write_refused w buf n
refused_keeps_all w (read_kiss target) n = read_refused w target n
refused_keeps_all w (handle_lsf bytes) n = heard-refused w (lsf_in w bytes) (air.refused_keeps_all (box w) (lsf bytes)) n
refused_keeps_all w (handle_packet f) n = heard-refused w (packet_in w f) (air.refused_keeps_all (box w) (packet f)) n
refused_keeps_all w (handle_stream f) n = heard-refused w (stream_in w f) (stream.refused_keeps_all (box w) f) n
refused_keeps_all w (set_data_carrier_detect dcd) n = ap (with_both w w.tnc) ((channel.refused_keeps_all w.channel).by_carrier dcd n)
refused_keeps_all w (set_now samples) n = timed-kept w _ ((clock.refused_keeps_all w.tnc w.channel samples).0 n)
refused_keeps_all w (set_tx_end_time samples) n = timed-kept w _ ((clock.refused_keeps_all w.tnc w.channel samples).1 n)
refused_keeps_all w ptt n = refl
refused_keeps_all w read_tx_frame n = given-refused w n

pub sound_stays_sound : SoundStaysSound
unfolding after
sound_stays_sound w (write_kiss buf) d s = write_sound w s buf
sound_stays_sound w (read_kiss target) d s = read_sound w s target
sound_stays_sound w (handle_lsf bytes) d s = heard_sound w s (lsf_in w bytes) (air.sound_stays_sound (box w) (lsf bytes) d (box_sound w s (lsf_in w bytes)))
sound_stays_sound w (handle_packet f) d s = heard_sound w s (packet_in w f) (air.sound_stays_sound (box w) (packet f) d (box_sound w s (packet_in w f)))
sound_stays_sound w (handle_stream f) d s =
    heard_sound w s (stream_in w f) (stream.sound_stays_sound (box w) f (record { its_part = d.0; its_data = d.1 }) (box_sound w s (stream_in w f)))
sound_stays_sound w (set_data_carrier_detect dcd) d s =
    with_both_lem w w.tnc (carrier_set w.channel dcd).channel s refl s.its_tnc ((channel.sound_stays_sound w.channel s.its_channel).by_carrier dcd)
sound_stays_sound w (set_now samples) d s =
    let k = (clock.sound_stays_sound w.tnc w.channel samples s.its_tnc s.its_channel).0 in
    with_both_lem w _ _ s (now_buffer w.tnc w.channel samples) k.its_tnc k.its_channel
sound_stays_sound w (set_tx_end_time samples) d s =
    let k = (clock.sound_stays_sound w.tnc w.channel samples s.its_tnc s.its_channel).1 in
    with_both_lem w _ _ s (end_buffer w.tnc w.channel samples) k.its_tnc k.its_channel
sound_stays_sound w ptt d s = s
sound_stays_sound w read_tx_frame d s = given_sound w s

pub sound_is_answered : SoundIsAnswered
unfolding number Fine
sound_is_answered w (write_kiss buf) d s = write_fine w s buf
sound_is_answered w (read_kiss target) d s = fine (omega (arith, read_fine w s target))
sound_is_answered w (handle_lsf bytes) d s = fine (subst (λ a. air_number a ≤ 6) (heard_answer w s (lsf_in w bytes)) (lsf_fine (box w) bytes (box_sound w s (lsf_in w bytes))).at_most_6)
sound_is_answered w (handle_packet f) d s = fine (subst (λ a. air_number a ≤ 6) (heard_answer w s (packet_in w f)) (packet_fine (box w) f (box_sound w s (packet_in w f))).at_most_6)
sound_is_answered w (handle_stream f) d s = fine (subst (λ a. air_number a ≤ 6) (heard_answer w s (stream_in w f)) (stream_fine (box w) f (box_sound w s (stream_in w f))).at_most_6)
sound_is_answered w (set_data_carrier_detect dcd) d s = fine (carrier_fine w.channel dcd s.its_channel)
sound_is_answered w (set_now samples) d s = fine (now_fine w.tnc w.channel samples s.its_tnc s.its_channel)
sound_is_answered w (set_tx_end_time samples) d s = fine (end_fine w.tnc w.channel samples s.its_tnc s.its_channel)
sound_is_answered w ptt d s = fine (ptt_fine w.tnc s.its_tnc)
sound_is_answered w read_tx_frame d s = fine (given_fine w s)

pub run_sound : (w : World) (cs : List Call) → AllTyped cs → Sound w → Sound (run w cs)
unfolding run AllTyped
run_sound w [] d s = s
run_sound w (c ∷ cs) d s = run_sound (after w c) cs d.1 (sound_stays_sound w c d.0 s)

pub any_calls_stay_sound : AnyCallsStaySound
any_calls_stay_sound w cs c d e s =
    let k = run_sound w cs d s in let f = sound_is_answered (run w cs) c e k in (k, f.0, f.1)
