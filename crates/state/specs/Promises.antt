-- What is promised of the TNC's states as a transmission ends, from document 01. Each is proved in proofs/Kept.antt. Assumes nothing.
use Rattle.std.specs.Prelude.{ℕ, ◌≤◌, true, false, ◌≡◌}
use Rattle.state.specs.declared.State.{State}
use Rattle.state.specs.declared.State.TheVariants.{TxEndingAtTime}
use Rattle.state.specs.State.{LASTEND, transmits, sound_state, time_reached, ending_at}

-- a sound state stays sound, whatever the clock shows, and with any end time within its limit
abbrev pub SoundAtTime : Type 0
SoundAtTime = (s : State) (now : ℕ) → sound_state s ≡ true → sound_state (time_reached s now) ≡ true

abbrev pub SoundEndingAt : Type 0
SoundEndingAt = (s : State) (end : ℕ) → end ≤ LASTEND → sound_state s ≡ true → sound_state (ending_at s end) ≡ true

-- the clock switches PTT off only at or after the end that was given
pub record Over (s : State) (now : ℕ) : Type 0 where
  pub end : ℕ
  pub given : s ≡ TxEndingAtTime end
  pub reached : end ≤ now

abbrev pub PttUntilTheEnd : Type 0
PttUntilTheEnd = (s : State) (now : ℕ) → transmits s ≡ true → transmits (time_reached s now) ≡ false → Over s now

-- giving an end time, 0 too, does not switch PTT
abbrev pub EndTimeKeepsPtt : Type 0
EndTimeKeepsPtt = (s : State) (end : ℕ) → transmits (ending_at s end) ≡ transmits s

-- of several end times the first counts
abbrev pub FirstEndCounts : Type 0
FirstEndCounts = (s : State) (end later : ℕ) → ending_at (ending_at s end) later ≡ ending_at s end
