-- The promise of specs/Promises.antt is kept. Assumes nothing.
use mathlib.Core.Bool.{true}
use mathlib.Core.Path.{◌≡◌, refl, ap}
use native.Mathlib.Omega.{arith}
use borrow.Author.Tests.{le-leb}
use Rattle.choice.specs.Pick.{pick, and}
use Rattle.state.specs.declared.State.{State}
use Rattle.state.specs.declared.State.TheVariants.{RxAcquiringStream, RxStream}
use Rattle.tnc_link.specs.Numbers.{state_kind, state_value, valid_state, state_of}
use Rattle.tnc_link.specs.Promises.{Typed, idle, acquiring, stream, packet, tx_stream, tx_sent, tx_packet, tx_ending, tx_ending_at, SavedIsRestored}

valid : {s : State} → Typed s → valid_state (state_kind s) (state_value s) ≡ true
unfolding valid_state pick and
valid idle = refl
valid (acquiring {mask} h) = le-leb mask 255 h
valid (stream {expected} h) = le-leb expected 65535 h
valid packet = refl
valid tx_stream = refl
valid tx_sent = refl
valid tx_packet = refl
valid tx_ending = refl
valid tx_ending_at = refl

again : {s : State} → Typed s → state_of (state_kind s) (state_value s) ≡ s
unfolding state_of pick
again idle = refl
again (acquiring {mask} h) = ap RxAcquiringStream (omega (arith, h))
again (stream {expected} h) = ap RxStream (omega (arith, h))
again packet = refl
again tx_stream = refl
again tx_sent = refl
again tx_packet = refl
again tx_ending = refl
again tx_ending_at = refl

pub saved_is_restored : SavedIsRestored
saved_is_restored b t = (
  valid t,
  λ i. record {
    tnc = record { buffer = b.tnc.buffer; sending = b.tnc.sending; radio = record { state = again t i; outgoing = b.tnc.radio.outgoing }; ptt = b.tnc.ptt };
    channel = b.channel;
  },
)
