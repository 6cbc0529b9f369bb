-- A radio with its two stores, as one call leaves them and the next is handed them, and its bounds, from document 01's "Bounds for 8" and its answer 7. Assumes nothing.
use Rattle.std.specs.Prelude.{ℕ, true, false, ◌≡◌, List, length}
use Rattle.state.specs.State.{transmits}
use Rattle.radio.specs.declared.Radio.{Radio}
use Rattle.radio.specs.declared.Heard.{Heard}
use Rattle.radio.specs.Radio.{RX, MESSAGE, sound_radio}

pub record Box : Type 0 where
  pub radio : Radio
  pub rx : List ℕ
  pub out : List ℕ

abbrev pub left_by : Heard × List ℕ × List ℕ → Box
left_by h = record { radio = h.0.radio; rx = h.1; out = h.2 }

-- the stores have their lengths and the record is within its bounds
pub record Sound (x : Box) : Type 0 where
  pub its_rx : length x.rx ≡ RX
  pub its_out : length x.out ≡ MESSAGE
  pub its_state : sound_radio x.radio ≡ true

-- and PTT is off
pub record Receiving (x : Box) : Type 0 where
  pub sound : Sound x
  pub not_sending : transmits x.radio.state ≡ false
