-- The cases of a packet's frames: each from the tests on the way to it. Assumes nothing.
use Prim.Native.Nat.{ℕ, ◌≤◌, ◌<◌}
use mathlib.Core.Path.{◌≡◌, sym, ap, ◌∙◌}
use mathlib.Core.List.{List}
use borrow.Author.Tests.{lt-ltb, le-ltb}
use mathlib.Core.Bool.{true}
use Rattle.choice.specs.Pick.{pick, and_fst}
use Rattle.state.specs.declared.Reception.{Reception}
use Rattle.state.specs.declared.Reception.TheVariants.{Packet as InPacket}
use Rattle.state.proofs.Bounds.{count_bound}
use Rattle.state.specs.State.{reception_of}
use Rattle.radio.specs.declared.Radio.{Radio}
use Rattle.std.specs.Prelude.{Err}
use Rattle.radio.specs.declared.AirError.TheVariants.{OutOfRange as TooLarge}
use Rattle.radio.specs.declared.Heard.{Heard}
use Rattle.radio.specs.Radio.{sound_radio, answered}
use Rattle.tnc_air.specs.Heard.{collected_in, collected, finished_in, finished}

-- what the reception that was found makes of a frame
pub collected_as : (r : Radio) (index : ℕ) (payload rx : List ℕ) {k v : Reception} → k ≡ reception_of r.state → k ≡ v → collected_in v r index payload rx ≡ collected r index payload rx
collected_as r index payload rx e t = ap (λ (m : Reception). collected_in m r index payload rx) (sym t ∙ e)

module _ (r : Radio) (len : ℕ) (payload rx out : List ℕ) where
  pub too_long : {x : Heard} → x ≡ answered (Err TooLarge) r → 25 < len → (x, rx, out) ≡ finished r len payload rx out
  unfolding finished pick
  too_long e n = rw (lt-ltb 25 len n) (λ t. (e t, rx, out))

  pub finished_as : {k v : Reception} → len ≤ 25 → k ≡ reception_of r.state → k ≡ v → finished_in v r len payload rx out ≡ finished r len payload rx out
  unfolding finished pick
  finished_as n e t = rw (le-ltb 25 len n) (ap (λ (m : Reception). finished_in m r len payload rx out) (sym t ∙ e))

-- how many frames of a packet have come, in a sound state
pub count_in_lem : (r : Radio) (count : ℕ) {k : Reception} → sound_radio r ≡ true → k ≡ reception_of r.state → k ≡ InPacket count → count ≤ 32
unfolding sound_radio
count_in_lem r count e k t = count_bound r.state count (and_fst _ _ e) (sym k ∙ t)
