-- Document 01's number of an answer, from what `number_of` says of it. Assumes nothing.
use Prim.Native.Nat.{ℕ}
use mathlib.Core.Path.{◌≡◌, sym, ◌∙◌}
use Rattle.std.specs.Prelude.{Result, Ok, Err}
use Rattle.std.specs.Result.{MatchResult}

pub numbered : {T E : Type 0} {n : ℕ} (f : E → ℕ) (g : Result T E → ℕ) → ((x : T) → g (Ok x) ≡ 0) → ((e : E) → g (Err e) ≡ f e) → (a : Result T E) → MatchResult a (λ _. n ≡ 0) (λ e. n ≡ f e) → n ≡ g a
numbered f g p q (Ok x) h = h ∙ sym (p x)
numbered f g p q (Err e) h = h ∙ sym (q e)
