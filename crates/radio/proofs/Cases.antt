-- What comes of a frame, by what `hears` answered. Assumes nothing.
use Prim.Native.Nat.{ℕ}
use mathlib.Core.Path.{◌≡◌, refl, sym, ap, ◌∙◌, subst}
use mathlib.Core.List.{List}
use lib.Dec.{eqb}
use lib.ListN.{length}
use borrow.Author.Tests.{eqb-true}
use Rattle.choice.specs.Pick.{pick_all}
use Rattle.state.specs.State.{transmits}
use Rattle.radio.specs.declared.Radio.{Radio}
use Rattle.radio.specs.declared.Heard.{Heard}
use Rattle.std.specs.Prelude.{Bool, true, false, not, Result, Ok, Err}
use Rattle.radio.specs.declared.AirError.{AirError}
use Rattle.radio.specs.Radio.{RX, MESSAGE, sound_radio, hears_by, hears_of, listening, unless_sending}
use Rattle.radio.specs.Box.{Box, Receiving}

-- what `hears` answered decides
pub heard_as : (r : Radio) (rx out : List ℕ) (h : Heard × List ℕ × List ℕ) {k v : Result Bool AirError} → k ≡ hears_of r rx out → k ≡ v → listening v r rx out h ≡ unless_sending r rx out h
unfolding unless_sending
heard_as r rx out h e t = ap (λ (m : Result Bool AirError). listening m r rx out h) (sym t ∙ e)

-- a test of what was answered to a frame that is listened to
abbrev told-frame : Result Bool AirError → Type 0
told-frame (Ok true) = Unit {0}
told-frame (Ok false) = ⊥
told-frame (Err e) = ⊥

-- and of what is answered where all is sound
off : (b : Bool) → told-frame (Ok (not b)) → b ≡ false
off true i = absurd i
off false i = refl

pub frame-only : (x : Box) → hears_of x.radio x.rx x.out ≡ Ok true → Receiving x
unfolding hears_by
frame-only x e = go (subst told-frame (sym e) Prim.tt)
  where
    go : told-frame (hears_of x.radio x.rx x.out) → Receiving x
    go = pick_all (λ (k : Result Bool AirError). told-frame k → Receiving x) (eqb (length x.rx) RX) _ _
        (λ t. pick_all (λ (k : Result Bool AirError). told-frame k → Receiving x) (eqb (length x.out) MESSAGE) _ _
        (λ u. pick_all (λ (k : Result Bool AirError). told-frame k → Receiving x) (sound_radio x.radio) _ _
        (λ v i. record { sound = record { its_rx = eqb-true _ _ t; its_out = eqb-true _ _ u; its_state = v }; not_sending = off (transmits x.radio.state) i })
        (λ v. absurd)) (λ u. absurd)) (λ t. absurd)
