-- `event_end::last_line` meets its contract. Assumes nothing.
use Rattle.std.proofs.Common.{ℕ, ◌≡◌, refl, ap, ◌∙◌, arith}
use mathlib.Core.Bool.{Bool}
use mathlib.Core.List.{List, [], ◌∷◌}
use lib.ListN.{length, get_or}
use Rattle.std.specs.Prelude.{Result, ℕ}
use Rattle.event_line.specs.declared.LineError.{LineError}
use Rattle.event_line.specs.Line.{written}
use Rattle.event_answer.specs.declared.Applied.{Applied}
use Rattle.event_answer.specs.Answer.{keyed}
use Rattle.event_end.specs.End.{place_after, last_line}
use Rattle.event_end.proofs.last_line.Goals as goal

nothing : (s : List ℕ) (on : Bool) (d : List ℕ) → length s ≡ 0 → (0, d) ≡ last_line s on d
unfolding last_line
nothing [] on d h = refl
nothing (k ∷ s) on d h = absurd (omega arith)

something : (s : List ℕ) (on : Bool) (d : List ℕ) → (length s ≡ 0 → ⊥) → (place_after (written (get_or s 0 0) 9 on [] d 0).0 0, (written (get_or s 0 0) 9 on [] d 0).1) ≡ last_line s on d
unfolding last_line
something [] on d h = absurd (h refl)
something (k ∷ s) on d h = refl

pub returns-then-rest-eq0 : goal.returns-then-rest-eq0
returns-then-rest-eq0 c = let a = c.args in nothing a.rest.now (keyed a.before.tnc) a.dst.now c.if-rest-eq0.true

pub returns : goal.returns
returns c =
    let a = c.args in (λ j. (c.place_after.ensures j, c.put_line-line.new.dst))
    ∙ ap {B = ℕ × List ℕ} (λ (u : Result ℕ LineError × List ℕ). (place_after u.0 0, u.1)) (c.put_line-line.ensures ∙ ap (λ (r : Applied). written (get_or a.rest.now 0 0) r.number r.ptt [] a.dst.now 0) c.refuse-refused.ensures)
    ∙ something a.rest.now (keyed a.before.tnc) a.dst.now c.if-rest-eq0.false
