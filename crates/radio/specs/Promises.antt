-- What is promised of every call with a frame from the air, whatever the frame does where it is listened to, from document 01. Each is proved in proofs/Kept.antt.
-- Assumes nothing.
use Rattle.std.specs.Prelude.{ℕ, true, ◌≡◌, List, Result, Ok}
use Rattle.kiss_layout.specs.Build.{Building, frame_of}
use Rattle.kiss_layout.specs.Promises.{Accepted}
use Rattle.outgoing.specs.Message.{left}
use Rattle.state.specs.declared.State.{State}
use Rattle.state.specs.State.{transmits, sound_state}
use Rattle.radio.specs.declared.AirError.{AirError}
use Rattle.radio.specs.declared.Heard.{Heard}
use Rattle.radio.specs.declared.Radio.{Radio}
use Rattle.radio.specs.Radio.{answered, to_host, hears_of, unless_sending}
use Rattle.radio.specs.Box.{Box, left_by, Sound, Receiving}

-- an answer by which nothing changes says what it was given, and the radio is as it was
abbrev pub AnsweredKeepsAll : Type 0
AnsweredKeepsAll = (a : (Result (Unit {0}) AirError)) (r : Radio) → ((answered a r).answer ≡ a) × ((answered a r).radio ≡ r)

-- a frame is listened to exactly where all is sound and PTT is off
abbrev pub ReceivingHears : Type 0
ReceivingHears = (x : Box) → Receiving x → hears_of x.radio x.rx x.out ≡ Ok true

abbrev pub OnlyReceivingHears : Type 0
OnlyReceivingHears = (x : Box) → hears_of x.radio x.rx x.out ≡ Ok true → Receiving x

-- then it does what it does
abbrev pub ListenedTo : Type 0
ListenedTo = (x : Box) (h : Heard × List ℕ × List ℕ) → Receiving x → unless_sending x.radio x.rx x.out h ≡ h

-- while PTT is on, the answer is 0 and nothing changes
abbrev pub SendingHearsNothing : Type 0
SendingHearsNothing =
    (x : Box) (h : Heard × List ℕ × List ℕ) → Sound x → transmits x.radio.state ≡ true → unless_sending x.radio x.rx x.out h ≡ (answered (Ok tt) x.radio, x.rx, x.out)

-- what a builder made of arguments that it accepts and that goes to the host is what the host has to read, and leaves a sound box so
pub record Told (y : Box) (s : State) (b : Building) : Type 0 where
  pub its_state : y.radio.state ≡ s
  pub its_message : left y.radio.outgoing y.out ≡ frame_of b

abbrev pub ToHostIsTold : Type 0
ToHostIsTold = (s : State) (b : Building) (rx out : List ℕ) → Told (left_by ((to_host s b out).0, rx, (to_host s b out).1)) s b

abbrev pub ToldStaysSound : Type 0
ToldStaysSound = (s : State) (b : Building) (x : Box) → Accepted b → sound_state s ≡ true → Sound x → Sound (left_by ((to_host s b x.out).0, x.rx, (to_host s b x.out).1))
