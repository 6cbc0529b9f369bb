-- What it says that two numbers are read as a state, and that they are not. Assumes nothing.
use Prim.Native.Nat.{ℕ}
use mathlib.Core.Bool.{Bool, true, false}
use mathlib.Core.Path.{◌≡◌, refl, sym, ◌∙◌}
use Rattle.std.specs.Prelude.{Result, Ok, Err}
use Rattle.choice.specs.Pick.{pick}
use Rattle.state.specs.declared.State.{State}
use Rattle.tnc_link.specs.declared.NoState.{NoState}
use Rattle.tnc_link.specs.Numbers.{valid_state, state_of, no_state, state_read}

module _ (kind value : ℕ) {r : Result State NoState} (q : r ≡ state_read kind value) where
  pub read_no : {e : NoState} → r ≡ Err e → valid_state kind value ≡ false
  unfolding state_read pick
  read_no {e} f = by (valid_state kind value) refl (sym q ∙ f)
    where
      by : (b : Bool) → valid_state kind value ≡ b → ◌≡◌ {A = Result State NoState} (pick b (Ok (state_of kind value)) (Err no_state)) (Err e) → valid_state kind value ≡ false
      by true g h = cc
      by false g h = g

  pub read-yes : {s : State} → r ≡ Ok s → (valid_state kind value ≡ true) × (s ≡ state_of kind value)
  unfolding state_read pick
  read-yes {s} f = by (valid_state kind value) refl (sym q ∙ f)
    where
      by : (b : Bool) → valid_state kind value ≡ b → ◌≡◌ {A = Result State NoState} (pick b (Ok (state_of kind value)) (Err no_state)) (Ok s) → (valid_state kind value ≡ true) × (s ≡ state_of kind value)
      by true g h = (g, cc)
      by false g h = cc
