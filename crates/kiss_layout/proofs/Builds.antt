-- What a builder answers to arguments that it accepts, and to those that it refuses. Assumes nothing.
use mathlib.Core.Path.{◌≡◌, ap}
use mathlib.Core.Option.{Option, none, some}
use mathlib.Core.List.{List}
use Prim.Native.Nat.{ℕ}
use Rattle.std.specs.Prelude.{ℕ, Err}
use Rattle.kiss_layout.specs.declared.BuildError.{BuildError}
use Rattle.kiss_layout.specs.Frame.{put_frame}
use Rattle.kiss_layout.specs.Build.{Building, refusal, frame_of, unless, built}

pub built-accepted : (b : Building) (d : List ℕ) → none ≡ refusal b → put_frame (frame_of b) d ≡ built b d
unfolding built
built-accepted b d e = ap (λ (o : Option BuildError). unless o (frame_of b) d) e

pub built-refused : (b : Building) (d : List ℕ) {r : BuildError} → some r ≡ refusal b → (Err r, d) ≡ built b d
unfolding built
built-refused b d e = ap (λ (o : Option BuildError). unless o (frame_of b) d) e
