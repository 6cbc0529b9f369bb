-- The cases of a stream frame that is listened to: each from the tests on the way to it. Assumes nothing.
use Prim.Native.Nat.{ℕ, ◌≤◌, ◌<◌}
use mathlib.Core.Bool.{true}
use mathlib.Core.Path.{◌≡◌, sym, ap, ◌∙◌}
use mathlib.Core.List.{List}
use borrow.Author.Tests.{lt-ltb, le-ltb}
use Rattle.choice.specs.Pick.{pick, and_fst}
use Rattle.protocol.specs.declared.StreamFrame.{StreamFrame}
use Rattle.state.specs.declared.Reception.{Reception}
use Rattle.state.specs.declared.Reception.TheVariants.{Acquiring}
use Rattle.state.specs.State.{reception_of}
use Rattle.state.proofs.Bounds.{mask_bound}
use Rattle.radio.specs.declared.Radio.{Radio}
use Rattle.std.specs.Prelude.{Err}
use Rattle.radio.specs.declared.AirError.TheVariants.{OutOfRange}
use Rattle.radio.specs.declared.Heard.{Heard}
use Rattle.radio.specs.Radio.{sound_radio, answered}
use Rattle.tnc_stream.specs.Stream.{received_in, ranged}

module _ (r : Radio) (f : StreamFrame) (rx out : List ℕ) where
  pub index_over : {h : Heard} → h ≡ answered (Err OutOfRange) r → 5 < f.lich_idx → (h, rx, out) ≡ ranged r f rx out
  unfolding ranged pick
  index_over e n = rw (lt-ltb 5 f.lich_idx n) (λ t. (e t, rx, out))

  module _ (i : f.lich_idx ≤ 5) where
    pub number-over : {h : Heard} → h ≡ answered (Err OutOfRange) r → 32767 < f.frame_number → (h, rx, out) ≡ ranged r f rx out
    unfolding ranged pick
    number-over e n = rw (le-ltb 5 f.lich_idx i, lt-ltb 32767 f.frame_number n) (λ t. (e t, rx, out))

    -- what the reception that was found makes of it
    pub received_as : {k v : Reception} → f.frame_number ≤ 32767 → k ≡ reception_of r.state → k ≡ v → received_in v r f rx out ≡ ranged r f rx out
    unfolding ranged pick
    received_as n e t = rw (le-ltb 5 f.lich_idx i, le-ltb 32767 f.frame_number n) (ap (λ (m : Reception). received_in m r f rx out) (sym t ∙ e))

-- the mask of a sound state
pub mask_in_lem : (r : Radio) (mask : ℕ) {k : Reception} → sound_radio r ≡ true → k ≡ reception_of r.state → k ≡ Acquiring mask → mask < 64
unfolding sound_radio
mask_in_lem r mask e k t = mask_bound r.state mask (and_fst _ _ e) (sym k ∙ t)
