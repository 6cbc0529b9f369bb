-- The calls that tell the TNC the time, from document 01's answer 6, its "Bounds for 8" and m17core's tnc.rs. Assumes nothing.
use Rattle.std.specs.Prelude.{ℕ, ◌+◌, ◌^◌, leb, Result, Ok, Err}
use Rattle.choice.specs.Pick.{pick}
use Rattle.channel.specs.declared.Channel.{Channel}
use Rattle.channel.specs.declared.ChannelError.{ChannelError}
use Rattle.channel.specs.declared.ChannelError.TheVariants.{OutOfRange, OutOfBounds}
use Rattle.channel.specs.Access.{sound_channel, clock_set}
use Rattle.state.specs.declared.State.{State}
use Rattle.state.specs.State.{time_reached, ending_at}
use Rattle.radio.specs.declared.Radio.{Radio}
use Rattle.tnc_core.specs.declared.Tnc.{Tnc}
use Rattle.tnc_core.specs.Tnc.{sound_tnc, with_state}
use Rattle.tnc_clock.specs.declared.Timed.{Timed}

abbrev pub timed : Result (Unit {0}) ChannelError → Tnc → Channel → Timed
timed a t c = record { answer = a; tnc = t; channel = c }

-- the radio in another state, with the message that waits
abbrev pub in_state : Radio → State → Radio
in_state r s = record { state = s; outgoing = r.outgoing }

-- ---- the clock: a transmission whose end has come is over

abbrev pub on_clock : Result (Unit {0}) ChannelError → Tnc → Channel → ℕ → Timed
on_clock (Ok done) t c now = timed (Ok tt) (with_state t (time_reached t.radio.state now)) c
on_clock (Err e) t c now = timed (Err e) t c

unfoldable pub now_set : Tnc → Channel → ℕ → Timed
now_set t c now = pick (sound_tnc t) (on_clock (clock_set c now).answer t (clock_set c now).channel now) (timed (Err OutOfBounds) t c)

-- ---- the end of a transmission: at most 2^32 samples ahead

abbrev pub FARTHEST : ℕ
FARTHEST = 2 ^ 32

unfoldable pub end_time_set : Tnc → Channel → ℕ → Timed
end_time_set t c ahead =
    pick (sound_tnc t)
    (pick (sound_channel c)
    (pick (leb ahead FARTHEST) (timed (Ok tt) (with_state t (ending_at t.radio.state (c.clock + ahead))) c) (timed (Err OutOfRange) t c))
    (timed (Err OutOfBounds) t c))
    (timed (Err OutOfBounds) t c)
