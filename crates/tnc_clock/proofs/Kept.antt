-- The promises of specs/Promises.antt are kept. Assumes nothing.
use Prim.Native.Nat.{ℕ, ◌+◌}
use mathlib.Core.Bool.{true, false, false≢true}
use mathlib.Core.Path.{◌≡◌, refl, sym, ◌∙◌}
use native.Mathlib.Omega.{arith}
use lib.Dec.{leb}
use borrow.Author.Tests.{leb-true}
use Rattle.choice.specs.Pick.{pick_all, and_fst, and_snd, and_both}
use Rattle.channel.specs.declared.Channel.{Channel}
use Rattle.std.specs.Prelude.{Result, Ok, Err}
use Rattle.channel.specs.declared.ChannelError.{ChannelError}
use Rattle.channel.specs.declared.ChannelError.TheVariants.{OutOfRange, OutOfBounds}
use Rattle.channel.specs.Access.{sound_channel, clock_set, set_number}
use Rattle.channel.proofs.Kept as channels
use Rattle.channel.proofs.Bounds.{clock_bound}
use Rattle.state.specs.declared.State.{State}
use Rattle.state.specs.declared.State.TheVariants.{Idle, RxAcquiringStream, RxStream, RxPacket, TxStream, TxStreamSentEndOfStream, TxPacket, TxEnding, TxEndingAtTime}
use Rattle.state.specs.State.{transmits, sound_state, time_reached, ending_at}
use Rattle.state.specs.Promises.{Over}
use Rattle.state.proofs.Kept as states
use Rattle.radio.specs.Radio.{sound_radio}
use Rattle.tnc_core.specs.declared.Tnc.{Tnc}
use Rattle.tnc_core.specs.Tnc.{sound_tnc, with_state}
use Rattle.tnc_core.proofs.Bounds.{parts}
use Rattle.tnc_core.proofs.Kept.{with_radio_is_sound}
use Rattle.tnc_clock.specs.declared.Timed.{Timed}
use Rattle.tnc_clock.specs.Clock.{FARTHEST, timed, on_clock, now_set, end_time_set}
use Rattle.tnc_clock.specs.Promises.{BothSound, SoundStaysSound, Kept, RefusedKeepsAll, PttUntilTheEnd, EndTimeKeepsPtt}

state_sound : (t : Tnc) (s : State) → sound_tnc t ≡ true → sound_state s ≡ true → sound_tnc (with_state t s) ≡ true
unfolding sound_radio
state_sound t s e k = with_radio_is_sound t (record { state = s; outgoing = t.radio.outgoing }) e (and_both k (and_snd _ _ (parts t e).its_radio))

its_state : (t : Tnc) → sound_tnc t ≡ true → sound_state t.radio.state ≡ true
unfolding sound_radio
its_state t e = and_fst _ _ (parts t e).its_radio

clock_sound : (a : (Result (Unit {0}) ChannelError)) (t : Tnc) (c : Channel) (n : ℕ) → sound_tnc t ≡ true → sound_channel c ≡ true → BothSound (on_clock a t c n)
clock_sound (Ok tt) t c n e s = record { its_tnc = state_sound t (time_reached t.radio.state n) e (states.sound_at_time t.radio.state n (its_state t e)); its_channel = s }
clock_sound (Err x) t c n e s = record { its_tnc = e; its_channel = s }

now_sound : (t : Tnc) (c : Channel) (n : ℕ) → sound_tnc t ≡ true → sound_channel c ≡ true → BothSound (now_set t c n)
unfolding now_set
now_sound t c n e s =
    pick_all BothSound (sound_tnc t) _ _
    (λ u. clock_sound (clock_set c n).answer t (clock_set c n).channel n e ((channels.sound_stays_sound c s).by_clock n)) (λ u. record { its_tnc = e; its_channel = s })

end_sound : (t : Tnc) (c : Channel) (n : ℕ) → sound_tnc t ≡ true → sound_channel c ≡ true → BothSound (end_time_set t c n)
unfolding end_time_set
end_sound t c n e s =
    let same : (a : (Result (Unit {0}) ChannelError)) → BothSound (timed a t c) = λ a. record { its_tnc = e; its_channel = s } in
    pick_all BothSound (sound_tnc t) _ _
    (λ u. pick_all BothSound (sound_channel c) _ _
    (λ v. pick_all BothSound (leb n FARTHEST) _ _
    (λ w. record {
      its_tnc =
          state_sound t (ending_at t.radio.state (c.clock + n)) e
          (states.sound_ending_at t.radio.state (c.clock + n) (omega (arith, clock_bound c s, leb-true n FARTHEST w)) (its_state t e));
      its_channel = s;
    })
    (λ w. same (Err OutOfRange))) (λ v. same (Err OutOfBounds))) (λ u. same (Err OutOfBounds))

pub sound_stays_sound : SoundStaysSound
sound_stays_sound t c n e s = (now_sound t c n e s, end_sound t c n e s)

-- ---- refusals

abbrev Fair : Tnc → Channel → Timed → Type 0
Fair t c r = (set_number r.answer ≡ 0 → ⊥) → Kept t c r

clock_fair : (a : (Result (Unit {0}) ChannelError)) (t : Tnc) (c d : Channel) (n : ℕ) → ((set_number a ≡ 0 → ⊥) → d ≡ c) → Fair t c (on_clock a t d n)
clock_fair (Ok tt) t c d n k f = absurd (f refl)
clock_fair (Err x) t c d n k f = record { its_tnc = refl; its_channel = k f }

pub refused_keeps_all : RefusedKeepsAll
unfolding now_set end_time_set
refused_keeps_all t c n =
    let same : (a : (Result (Unit {0}) ChannelError)) → Fair t c (timed a t c) = λ a f. record { its_tnc = refl; its_channel = refl } in (
      pick_all (Fair t c) (sound_tnc t) _ _
          (λ u. clock_fair (clock_set c n).answer t c (clock_set c n).channel n ((channels.refused_keeps_all c).by_clock n)) (λ u. same (Err OutOfBounds)),
      pick_all (Fair t c) (sound_tnc t) _ _
          (λ u. pick_all (Fair t c) (sound_channel c) _ _
          (λ v. pick_all (Fair t c) (leb n FARTHEST) _ _ (λ w f. absurd (f refl)) (λ w. same (Err OutOfRange))) (λ v. same (Err OutOfBounds))) (λ u. same (Err OutOfBounds)),
    )

-- ---- PTT

-- a state that does not transmit does not begin to
reached_off : (s : State) (now : ℕ) → transmits s ≡ false → transmits (time_reached s now) ≡ false
reached_off Idle now off = refl
reached_off (RxAcquiringStream mask) now off = refl
reached_off (RxStream expected) now off = refl
reached_off (RxPacket count) now off = refl
reached_off TxStream now off = off
reached_off TxStreamSentEndOfStream now off = off
reached_off TxPacket now off = off
reached_off TxEnding now off = off
reached_off (TxEndingAtTime end) now off = absurd (false≢true (sym off))

module _ (t : Tnc) (c : Channel) (now : ℕ) (e : sound_tnc t ≡ true) where
  abbrev Right : Timed → Type 0
  Right r = (t.ptt ≡ true → r.tnc.ptt ≡ false → Over t.radio.state now) × (t.ptt ≡ false → r.tnc.ptt ≡ false)

  same_right : (a : (Result (Unit {0}) ChannelError)) (d : Channel) → Right (timed a t d)
  same_right a d = (λ on off. absurd (false≢true (sym off ∙ on)), λ off. off)

  clock_right : (a : (Result (Unit {0}) ChannelError)) (d : Channel) → Right (on_clock a t d now)
  clock_right (Ok tt) d = (
    λ on off. states.ptt_until_the_end t.radio.state now (sym (parts t e).its_ptt ∙ on) off,
    λ off. reached_off t.radio.state now (sym (parts t e).its_ptt ∙ off),
  )
  clock_right (Err x) d = same_right (Err x) d

pub ptt_until_the_end : PttUntilTheEnd
unfolding now_set
ptt_until_the_end t c now e =
    let r = pick_all (Right t c now e) (sound_tnc t) _ _ (λ u. clock_right t c now e (clock_set c now).answer (clock_set c now).channel) (λ u. same_right t c now e (Err OutOfBounds) c) in
    record { goes = r.0; stays = r.1 }

pub end_time_keeps_ptt : EndTimeKeepsPtt
unfolding end_time_set
end_time_keeps_ptt t c n e =
    pick_all (λ (r : Timed). r.tnc.ptt ≡ t.ptt) (sound_tnc t) _ _
    (λ u. pick_all (λ (r : Timed). r.tnc.ptt ≡ t.ptt) (sound_channel c) _ _
    (λ v. pick_all (λ (r : Timed). r.tnc.ptt ≡ t.ptt) (leb n FARTHEST) _ _
    (λ w. states.end_time_keeps_ptt t.radio.state (c.clock + n) ∙ sym (parts t e).its_ptt) (λ w. refl)) (λ v. refl)) (λ u. refl)
