-- What C gets of an answer, from what `count_of` and `reader_answer` say of it. Assumes nothing.
use Prim.Native.Nat.{ℕ}
use mathlib.Core.Path.{◌≡◌, ap, sym, ◌∙◌}
use Rattle.std.specs.Prelude.{Result, Ok, Err}
use Rattle.std.specs.Result.{MatchResult}
use Rattle.kiss_calls.specs.declared.KissBuffer.{KissBuffer}
use Rattle.link_numbers.specs.declared.Counted.{Counted}
use Rattle.link_numbers.specs.declared.ReaderAnswer.{ReaderAnswer}
use Rattle.link_numbers.specs.Numbers.{counted, told}

pub count_is : {E : Type 0} {c : Counted} (f : E → ℕ) (g : Result ℕ E → Counted) → ((n : ℕ) → g (Ok n) ≡ counted 0 n) → ((e : E) → g (Err e) ≡ counted (f e) 0) → (a : Result ℕ E) → MatchResult a (λ n. c ≡ counted 0 n) (λ e. (c.number ≡ f e) × (c.count ≡ 0)) → c ≡ g a
count_is f g p q (Ok n) h = h ∙ sym (p n)
count_is {c = c} f g p q (Err e) h = ap (λ (k : ℕ). counted k c.count) h.0 ∙ ap (counted (f e)) h.1 ∙ sym (q e)

pub answer_is : {E : Type 0} {b : KissBuffer} {c : ReaderAnswer} (f : E → ℕ) (g : Result ℕ E → KissBuffer → ReaderAnswer) → ((n : ℕ) → g (Ok n) b ≡ told 0 n b) → ((e : E) → g (Err e) b ≡ told (f e) 0 b) → (a : Result ℕ E)
    → MatchResult a (λ n. c ≡ told 0 n b) (λ e. (c.number ≡ f e) × (c.count ≡ 0) × (c.reader ≡ b)) → c ≡ g a b
answer_is {b = b} f g p q (Ok n) h = h ∙ sym (p n)
answer_is {b = b} {c = c} f g p q (Err e) h =
    ap (λ (k : ℕ). told k c.count c.reader) h.0 ∙ ap (λ (k : ℕ). told (f e) k c.reader) h.1 ∙ ap (told (f e) 0) h.2 ∙ sym (q e)
