-- The case of a frame from the air. Assumes nothing.
use Prim.Native.Nat.{ℕ}
use mathlib.Core.Path.{◌≡◌, sym, ap, ◌∙◌}
use mathlib.Core.List.{List}
use Rattle.radio.specs.declared.Heard.{Heard}
use Rattle.radio.specs.declared.AirError.{AirError}
use Rattle.std.specs.Prelude.{Result}
use Rattle.tnc_core.specs.declared.Tnc.{Tnc}
use Rattle.tnc_receive.specs.Calls.{tnc_hears, heard_by, air_heard}

-- what a frame from the air does, once it is known whether the TNC hears it
pub heard_as : (t : Tnc) (rx message : List ℕ) (h : Heard × List ℕ × List ℕ) {k : Result (Unit {0}) AirError} (v : Result (Unit {0}) AirError) → k ≡ tnc_hears t rx message → k ≡ v
    → heard_by v t rx message h ≡ air_heard t rx message h
unfolding air_heard
heard_as t rx message h v e q = ap (λ (m : Result (Unit {0}) AirError). heard_by m t rx message h) (sym q ∙ e)
