-- The setting that a frame's payload stands for. Assumes nothing.
use Prim.Native.Nat.{ℕ}
use mathlib.Core.Path.{◌≡◌, sym, ap, ◌∙◌}
use mathlib.Core.List.{List}
use lib.ListN.{replicate}
use Rattle.std.specs.Prelude.{Result, ℕ}
use Rattle.kiss_layout.specs.declared.KissError.{KissError}
use Rattle.kiss_layout.specs.Read.{decoded}
use Rattle.host_frame.specs.Setting.{setting_from, setting_in}

pub setting_as : (frame room : List ℕ) {k : (Result ℕ KissError)} (v : (Result ℕ KissError)) → (k, room) ≡ decoded frame (replicate 1 0) → k ≡ v → setting_from v room ≡ setting_in frame
unfolding setting_in
setting_as frame room v e t = ap (λ (d : (Result ℕ KissError)). setting_from d room) (sym t) ∙ ap (λ (p : Result ℕ KissError × List ℕ). setting_from p.0 p.1) e
