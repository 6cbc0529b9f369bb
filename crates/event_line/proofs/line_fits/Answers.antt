-- `event_line::line_fits` meets its contract. Assumes nothing.
use Rattle.std.proofs.Common.{ℕ, ◌+◌, ◌*◌, ◌-◌, ◌/◌, ◌≤◌, ◌<◌, ◌≡◌, refl, arith}
use mathlib.Core.Bool.{Bool, true, false}
use borrow.Author.Tests.{eq-eqb, ne_eqb, lt-leb, le-leb, leb-true, leb-false}
use lib.Dec.{leb}
use Rattle.choice.specs.Pick.{pick}
use Rattle.event_line.specs.Line.{fits}
use Rattle.event_line.proofs.line_fits.Goals as goal

halved : (n r : ℕ) → 8 ≤ r → leb n ((r - 8) / 2) ≡ leb (8 + 2 * n) r
halved n r h = by (leb n ((r - 8) / 2)) refl
  where
    by : (b : Bool) → leb n ((r - 8) / 2) ≡ b → b ≡ leb (8 + 2 * n) r
    by true e = let l : n ≤ (r - 8) / 2 = leb-true _ _ e in rw (le-leb (8 + 2 * n) r (omega arith))
    by false e = let l : (r - 8) / 2 < n = leb-false _ _ e in rw (lt-leb (8 + 2 * n) r (omega arith))

pub returns-then-count-eq0 : goal.returns-then-count-eq0
unfolding fits pick
returns-then-count-eq0 c = rw (eq-eqb c.args.count 0 c.if-count-eq0.true)

pub returns-then-room-lt8 : goal.returns-then-room-lt8
unfolding fits pick
returns-then-room-lt8 c = let a = c.args in rw (ne_eqb a.count 0 c.if-count-eq0.false, lt-leb (8 + 2 * a.count) a.room (omega arith))

pub returns : goal.returns
unfolding fits pick
returns c = let a = c.args in rw (ne_eqb a.count 0 c.if-count-eq0.false) (halved a.count a.room (omega arith))
