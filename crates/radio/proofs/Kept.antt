-- The promises of specs/Promises.antt are kept, and a rule for proving what holds of every call. Assumes nothing.
use Prim.Native.Nat.{ℕ}
use mathlib.Core.Path.{◌≡◌, refl, sym, ◌∙◌}
use mathlib.Core.List.{List}
use native.Mathlib.Omega.{arith}
use lib.ListN.{length}
use borrow.Author.Tests.{eq-eqb}
use Rattle.choice.specs.Pick.{pick, and_both}
use Rattle.kiss_layout.specs.Build.{frame_of}
use Rattle.kiss_layout.proofs.Kept.{built_at_most_1713}
use Rattle.std.specs.Prelude.{Bool, true, false, Result, Ok, Err}
use Rattle.radio.specs.declared.AirError.{AirError}
use Rattle.radio.specs.declared.Heard.{Heard}
use Rattle.radio.specs.Radio.{RX, MESSAGE, sound_radio, answered, hears_by, hears_of, listening, unless_sending}
use Rattle.radio.specs.Box.{Box, Receiving}
use Rattle.radio.specs.Promises.{AnsweredKeepsAll, ReceivingHears, OnlyReceivingHears, ListenedTo, SendingHearsNothing, ToHostIsTold, ToldStaysSound}
use Rattle.radio.proofs.Messages.{length_over, told_sound, left_over}
use Rattle.radio.proofs.Cases.{frame-only, heard_as}

pub receiving_hears : ReceivingHears
unfolding hears_by pick
receiving_hears x g =
    rw (eq-eqb (length x.rx) RX g.sound.its_rx, eq-eqb (length x.out) MESSAGE g.sound.its_out, g.sound.its_state, g.not_sending)

pub only_receiving_hears : OnlyReceivingHears
only_receiving_hears = frame-only

pub listened_to : ListenedTo
listened_to x h g = sym (heard_as x.radio x.rx x.out h refl (receiving_hears x g))

pub sending_hears_nothing : SendingHearsNothing
unfolding hears_by unless_sending pick
sending_hears_nothing x h s on = rw (eq-eqb (length x.rx) RX s.its_rx, eq-eqb (length x.out) MESSAGE s.its_out, s.its_state, on)

-- what holds of each outcome of a frame holds of what comes of it
pub each : (P : Heard × List ℕ × List ℕ → Type 0) (x : Box) (h : Heard × List ℕ × List ℕ)
    → ((a : (Result (Unit {0}) AirError)) → P (answered a x.radio, x.rx, x.out)) → (Receiving x → P h) → P (unless_sending x.radio x.rx x.out h)
unfolding unless_sending
each P x h kept f = go (hears_of x.radio x.rx x.out) refl
  where
    go : (k : Result Bool AirError) → hears_of x.radio x.rx x.out ≡ k → P (listening k x.radio x.rx x.out h)
    go (Ok true) e = f (frame-only x e)
    go (Ok false) e = kept (Ok tt)
    go (Err a) e = kept (Err a)

pub answered_keeps_all : AnsweredKeepsAll
answered_keeps_all a r = (refl, refl)

pub to_host_is_told : ToHostIsTold
to_host_is_told s b rx out = record { its_state = refl; its_message = left_over (frame_of b) out }

pub told_stays_sound : ToldStaysSound
unfolding sound_radio
told_stays_sound s b x ok its s0 =
    record {
      its_rx = s0.its_rx;
      its_out = length_over (frame_of b) x.out (omega (arith, built_at_most_1713 b ok, s0.its_out)) ∙ s0.its_out;
      its_state = and_both its (told_sound b ok);
    }
