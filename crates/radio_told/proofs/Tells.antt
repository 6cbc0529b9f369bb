-- What was built is what the host is told. Assumes nothing.
use Prim.Native.Nat.{ℕ}
use mathlib.Core.Path.{◌≡◌, ap, ◌∙◌}
use mathlib.Core.List.{List}
use native.Mathlib.Omega.{arith}
use lib.ListN.{length}
use Rattle.std.specs.Prelude.{Result, ℕ}
use Rattle.kiss_layout.specs.declared.BuildError.{BuildError}
use Rattle.kiss_layout.specs.Build.{Building, built}
use Rattle.kiss_layout.specs.Promises.{Accepted}
use Rattle.kiss_layout.proofs.Kept.{accepted_is_built, built_at_most_1713}
use Rattle.state.specs.declared.State.{State}
use Rattle.radio.specs.declared.Heard.{Heard}
use Rattle.radio.specs.Radio.{MESSAGE, to_host}
use Rattle.radio_told.specs.Inside.{told_of}

-- the answer and the message's store, once a builder whose arguments it accepts was called and `told` was told its answer
pub told : (s : State) (b : Building) (out last : List ℕ) (r : (Result ℕ BuildError)) (h : Heard) → Accepted b → length out ≡ MESSAGE → (r, last) ≡ built b out → h ≡ told_of s r
    → (h, last) ≡ to_host s b out
told s b out last r h ok full e m =
    let short = built_at_most_1713 b ok in
    let p = e ∙ accepted_is_built b out ok (omega (arith, short, full)) in
    let n = m ∙ ap (λ (q : Result ℕ BuildError × List ℕ). told_of s q.0) p in
    λ t. (n t, (p t).1)
