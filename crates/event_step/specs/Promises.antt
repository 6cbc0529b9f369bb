-- What is promised of events, from document 01's "Event program". Each is proved in proofs/Few.antt. Assumes nothing.
use Rattle.std.specs.Prelude.{ℕ, ◌≤◌, List, get_or}
use Rattle.any_calls.specs.Calls.{World}
use Rattle.event_answer.specs.Answer.{MOST}
use Rattle.event_step.specs.Step.{applied}

-- no event prints more than 255 bytes: 09 asks for no more, and a frame for the modulator has at most 30
abbrev pub AtMost255 : Type 0
AtMost255 = (kind : ℕ) (body : List ℕ) (w : World) (room : List ℕ) → get_or body 0 0 ≤ 255 → (applied kind body w room).count ≤ MOST
