-- `store::put` meets its contract. The invariant says what is left: storing src from i on, from at + i on, gives what storing all of it gave at the start. Assumes nothing.
use Rattle.std.proofs.Common.{ℕ, ◌+◌, ◌-◌, ◌<◌, ◌≡◌, refl, sym, ap, ◌∙◌, arith, rules}
use native.Mathlib.Nat.{add-zero}
use native.Mathlib.Numerals.{add-one}
use mathlib.Core.List.{List, ◌∷◌}
use lib.ListN.{length, drop, get_or, set, drop_of_length-le}
use lib.Seq.{sets, drop-cons}
use Rattle.room.proofs.Runs.{put_one}
use Rattle.store.proofs.put.Goals as goal

step : (s d r : List ℕ) (at i : ℕ) → i < length s → sets d (at + i) (drop i s) ≡ r → sets (set d (at + i) (get_or s i 0)) (at + (i + 1)) (drop (i + 1) s) ≡ r
step s d r at i h e =
    let p : at + (i + 1) ≡ at + i + 1 = omega arith in
    let q : drop i s ≡ get_or s i 0 ∷ drop (i + 1) s = rw (add-one, drop-cons s i 0) in
    rw p (put_one d (at + i) q e)

pub loop-i-init : goal.loop-i-init
loop-i-init c = (search rules, refl, rw add-zero)

pub loop-i-preserved : goal.loop-i-preserved
loop-i-preserved c =
    let a = c.args in
    (search rules, search rules, step a.src.now c.loop-i.dst _ a.at c.loop-i.i c.loop-i-test.true c.loop-i.invariant.2)

pub returns : goal.returns
returns c =
    let a = c.args in
    ap (sets c.loop-i.dst (a.at + c.loop-i.i)) (sym (drop_of_length-le a.src.now c.loop-i-test.false)) ∙ c.loop-i.invariant.2
