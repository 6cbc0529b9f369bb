-- The cases of a stream frame where a stream is being received: each from the tests on the way to it. Assumes nothing.
use Prim.Native.Nat.{ℕ, ◌≤◌, ◌<◌}
use mathlib.Core.Path.{◌≡◌, sym, ap, ◌∙◌}
use mathlib.Core.List.{List}
use borrow.Author.Tests.{lt-ltb, le-ltb}
use Rattle.choice.specs.Pick.{pick}
use Rattle.protocol.specs.declared.StreamFrame.{StreamFrame}
use Rattle.kiss_layout.specs.Build.{stream_data}
use Rattle.state.specs.declared.State.{State}
use Rattle.radio.specs.declared.Radio.{Radio}
use Rattle.radio.specs.declared.Heard.{Heard}
use Rattle.radio.specs.Radio.{to_host}
use Rattle.tnc_stream.specs.Restarted.{restarted}
use Rattle.tnc_stream.specs.Followed.{behind, followed}

module _ (r : Radio) (f : StreamFrame) (rx out : List ℕ) (expected : ℕ) where
  pub backward : {h : Heard} {last : List ℕ} → (h, last) ≡ restarted r f rx → f.frame_number < expected → (h, last, out) ≡ followed r expected f rx out
  unfolding followed pick
  backward e n = rw (lt-ltb f.frame_number expected n) (λ t. ((e t).0, (e t).1, out))

  pub forward : (s : State) {h : Heard} {last : List ℕ} → (h, last) ≡ to_host s (stream_data f) out → behind f ≡ s → expected ≤ f.frame_number → (h, rx, last) ≡ followed r expected f rx out
  unfolding followed pick
  forward s e b n = let p = e ∙ ap (λ (k : State). to_host k (stream_data f) out) (sym b) in rw (le-ltb f.frame_number expected n) (λ t. ((p t).0, rx, (p t).1))
