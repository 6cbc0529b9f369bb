-- `kiss_escape::put_each` meets its contract. The loop's invariant says what is left to do: storing what src from the loop's byte on is escaped to, from j on, gives what storing all of it gave at the start. Assumes nothing.
use Rattle.std.proofs.Common.{refl, sym, ap, ◌∙◌, arith}
use lib.Seq.{sets}
use lib.ListN.{length, length-set}
use Rattle.room.proofs.Runs.{put_one, put_two}
use Rattle.kiss_layout.proofs.Escapes.{esc_at_special, esc_at_plain, esc-done}
use Rattle.kiss_escape.proofs.put_each.Goals as goal
use Rattle.kiss_escape.proofs.put_each.Goals.{then-b, else-b}

pub bounds-dst-j : goal.bounds-dst-j
bounds-dst-j c = omega (arith, ap length (esc_at_special c.args.src.now c.loop-b.b-index c.loop-b-test.true c.if-b.true refl))

pub bounds-dst-j-then-b : goal.bounds-dst-j-then-b
bounds-dst-j-then-b c = simp length-set (omega (arith, ap length (esc_at_special c.args.src.now c.loop-b.b-index c.loop-b-test.true c.if-b.true c.code.ensures)))

pub bounds-dst-j-else-b : goal.bounds-dst-j-else-b
bounds-dst-j-else-b c = omega (arith, ap length (esc_at_plain c.args.src.now c.loop-b.b-index c.loop-b-test.true c.if-b.false))

pub loop-b-preserved : goal.loop-b-preserved
loop-b-preserved c =
    let s = c.args.src.now in let k = c.loop-b.b-index in let below = c.loop-b-test.true in
    elim c.if-b.branch [
      | then-b w ↦
          let e = esc_at_special s k below w.if-b.true w.code.ensures in
          rw (w.dst-is, w.j-is) (simp length-set c.loop-b.invariant.0, omega (arith, ap length e), put_two c.loop-b.dst c.loop-b.j e c.loop-b.invariant.2)
      | else-b w ↦
          let e = esc_at_plain s k below w.if-b.false in
          rw (w.dst-is, w.j-is) (simp length-set c.loop-b.invariant.0, omega (arith, ap length e), put_one c.loop-b.dst c.loop-b.j e c.loop-b.invariant.2)
    ]

pub returns : goal.returns
returns c =
    let e = esc-done c.args.src.now c.loop-b.b-index c.loop-b-test.false in
    (omega (arith, ap length e), ap (sets c.loop-b.dst c.loop-b.j) (sym e) ∙ c.loop-b.invariant.2)
