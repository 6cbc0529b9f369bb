-- `kiss_frame::frame_fits` meets its contract. Assumes nothing.
use Rattle.std.proofs.Common.{ℕ, ◌+◌, ◌-◌, ◌≤◌, ◌≡◌, refl, sym, ap₂, ◌∙◌, arith}
use mathlib.Core.Bool.{Bool, true, false}
use borrow.Author.Tests.{le-leb, lt-leb, leb-true, leb-false}
use lib.Dec.{leb}
use lib.ListN.{length}
use Rattle.kiss_layout.specs.Escape.{esc}
use Rattle.kiss_layout.proofs.Escapes.{esc-length}
use Rattle.kiss_frame.proofs.frame_fits.Goals as goal

-- what the first content leaves decides as the whole does
by_rest : (a b len : ℕ) → a + 3 ≤ len → leb b (len - 3 - a) ≡ leb (a + b + 3) len
by_rest a b len h = by (leb b (len - 3 - a)) refl
  where
    by : (t : Bool) → leb b (len - 3 - a) ≡ t → t ≡ leb (a + b + 3) len
    by true e = let k = leb-true b (len - 3 - a) e in sym (le-leb (a + b + 3) len (omega arith))
    by false e = let k = leb-false b (len - 3 - a) e in sym (lt-leb (a + b + 3) len (omega arith))

pub returns-then-len-lt3 : goal.returns-then-len-lt3
returns-then-len-lt3 c =
    let taken : ℕ = length (esc c.args.first.now) + length (esc c.args.second.now) + 3 in
    sym (lt-leb (taken) c.args.len (omega arith))

pub returns-then-first-second : goal.returns-then-first-second
returns-then-first-second c =
    let taken : ℕ = length (esc c.args.first.now) + length (esc c.args.second.now) + 3 in
    sym (le-leb (taken) c.args.len (omega (arith, esc-length c.args.first.now, esc-length c.args.second.now)))

pub returns-then-len-n : goal.returns-then-len-n
returns-then-len-n c =
    let taken : ℕ = length (esc c.args.first.now) + length (esc c.args.second.now) + 3 in
    sym (lt-leb (taken) c.args.len (omega (arith, c.escaped_len-n.ensures)))

pub returns : goal.returns
returns c =
    let len = c.args.len in by_rest c.escaped_len-n.result c.escaped_len.result len (omega arith) ∙ ap₂ (λ x y. leb (x + y + 3) len) c.escaped_len-n.ensures c.escaped_len.ensures
