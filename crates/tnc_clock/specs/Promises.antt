-- What is promised of the calls that tell the TNC the time, from document 01. Each is proved in proofs/Kept.antt. Assumes nothing.
use Rattle.std.specs.Prelude.{ℕ, true, false, ◌≢◌, ◌≡◌}
use Rattle.channel.specs.declared.Channel.{Channel}
use Rattle.channel.specs.Access.{sound_channel, set_number}
use Rattle.state.specs.Promises.{Over}
use Rattle.tnc_core.specs.declared.Tnc.{Tnc}
use Rattle.tnc_core.specs.Tnc.{sound_tnc}
use Rattle.tnc_clock.specs.declared.Timed.{Timed}
use Rattle.tnc_clock.specs.Clock.{now_set, end_time_set}

-- sound records stay sound, whatever the time
pub record BothSound (r : Timed) : Type 0 where
  pub its_tnc : sound_tnc r.tnc ≡ true
  pub its_channel : sound_channel r.channel ≡ true

abbrev pub SoundStaysSound : Type 0
SoundStaysSound = (t : Tnc) (c : Channel) (n : ℕ) → sound_tnc t ≡ true → sound_channel c ≡ true → BothSound (now_set t c n) × BothSound (end_time_set t c n)

-- with any answer but 0 both records are as they were
pub record Kept (t : Tnc) (c : Channel) (r : Timed) : Type 0 where
  pub its_tnc : r.tnc ≡ t
  pub its_channel : r.channel ≡ c

abbrev pub RefusedKeepsAll : Type 0
RefusedKeepsAll =
    (t : Tnc) (c : Channel) (n : ℕ) → (set_number (now_set t c n).answer ≢ 0 → Kept t c (now_set t c n)) × (set_number (end_time_set t c n).answer ≢ 0 → Kept t c (end_time_set t c n))

-- the clock switches PTT off only at or after the end that was given, and never on
pub record PttAt (t : Tnc) (c : Channel) (now : ℕ) : Type 0 where
  pub goes : t.ptt ≡ true → (now_set t c now).tnc.ptt ≡ false → Over t.radio.state now
  pub stays : t.ptt ≡ false → (now_set t c now).tnc.ptt ≡ false

abbrev pub PttUntilTheEnd : Type 0
PttUntilTheEnd = (t : Tnc) (c : Channel) (now : ℕ) → sound_tnc t ≡ true → PttAt t c now

-- an end time, 0 too, does not switch PTT
abbrev pub EndTimeKeepsPtt : Type 0
EndTimeKeepsPtt = (t : Tnc) (c : Channel) (n : ℕ) → sound_tnc t ≡ true → (end_time_set t c n).tnc.ptt ≡ t.ptt
