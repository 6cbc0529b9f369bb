-- `kiss_unescape::unescape` meets its contract. The loop's invariant says what is left to do: laying the codes of src from i on, from j on, gives what laying all of them from 0 on gave at the start. Assumes nothing.
use Rattle.std.proofs.Common.{ℕ, ◌+◌, ◌≡◌, sym, ap, ◌∙◌, arith, rules}
use Prim.Native.Nat.{min}
use mathlib.Core.List.{List, [], ◌∷◌}
use lib.ListN.{length, drop, get_or, length-set}
use Rattle.kiss_layout.specs.Unescape.{Code, byte, as_found, codes}
use Rattle.kiss_unescape.specs.Lays.{lays}
use Rattle.kiss_unescape.proofs.Steps.{codes-done, codes_at_byte, codes_at_last, codes_at_known, codes_at_other, lays_out, lay_byte, lay-found, from_index, all_laid, few_bounds, later}
use Rattle.kiss_unescape.proofs.unescape.Goals as goal

pub overflow_add-i : goal.overflow_add-i
overflow_add-i c =
    let e0 = from_index c.args.src.now c.loop-stop.dst _ c.loop-stop.i c.loop-stop.j _ c.loop-stop.invariant.0 c.put_plain-n.ensures in
    omega (arith, e0.0)

pub overflow_add-j : goal.overflow_add-j
overflow_add-j c =
    let e0 = from_index c.args.src.now c.loop-stop.dst _ c.loop-stop.i c.loop-stop.j _ c.loop-stop.invariant.0 c.put_plain-n.ensures in
    omega (arith, e0.1)

-- blocks to the end of src
pub returns-then-src-i : goal.returns-then-src-i
returns-then-src-i c =
    let e0 = from_index c.args.src.now c.loop-stop.dst _ c.loop-stop.i c.loop-stop.j _ c.loop-stop.invariant.0 c.put_plain-n.ensures in
    let source : List ℕ = c.args.src.now in
    let a = c.args in
    let e = codes-done (source) (c.loop-stop.i + c.put_plain-n.result) c.if-src-i.true in
    all_laid a.src.now a.dst.now (omega (arith, ap length e, e0.1, e0.2, c.loop-stop.invariant.3, c.loop-stop.invariant.2))
    (ap (lays _ (c.loop-stop.j + c.put_plain-n.result)) (sym e) ∙ e0.3 ∙ c.loop-stop.invariant.4)

-- blocks to the end of dst
pub returns-then-dst-j : goal.returns-then-dst-j
returns-then-dst-j c =
    let e0 = from_index c.args.src.now c.loop-stop.dst _ c.loop-stop.i c.loop-stop.j _ c.loop-stop.invariant.0 c.put_plain-n.ensures in
    let source : List ℕ = c.args.src.now in
    let a = c.args in
    all_laid a.src.now a.dst.now (omega (arith, c.if-dst-j.true, c.put_plain-n.auto.dst, e0.1, e0.2, c.loop-stop.invariant.3, c.loop-stop.invariant.2))
    (sym (lays_out _ (c.loop-stop.j + c.put_plain-n.result) (codes (drop (c.loop-stop.i + c.put_plain-n.result) (source))) c.if-dst-j.true) ∙ e0.3 ∙ c.loop-stop.invariant.4)

pub overflow_add-stop : goal.overflow_add-stop
overflow_add-stop c =
    let e0 = from_index c.args.src.now c.loop-stop.dst _ c.loop-stop.i c.loop-stop.j _ c.loop-stop.invariant.0 c.put_plain-n.ensures in
    omega (arith, c.min.ensures, c.min-then-stop-i.ensures, e0.0)

pub loop-stop-smaller-then-stop-i : goal.loop-stop-smaller-then-stop-i
loop-stop-smaller-then-stop-i c =
    let source : List ℕ = c.args.src.now in
    let r = c.put_plain-n.result in let k = few_bounds _ c.if-src-i.false c.if-dst-j.false (c.min-then-stop-i.ensures ∙ ap (λ (n : ℕ). min n 16) c.min.ensures) in
    later (length (source)) c.loop-stop.i (c.loop-stop.i + r) c.loop-stop.stop c.min-then-stop-i.result (omega arith) c.if-stop-i.true k.0 k.1

-- a turn with blocks
pub loop-stop-preserved-then-stop-i : goal.loop-stop-preserved-then-stop-i
loop-stop-preserved-then-stop-i c =
    let e = from_index c.args.src.now c.loop-stop.dst _ c.loop-stop.i c.loop-stop.j _ c.loop-stop.invariant.0 c.put_plain-n.ensures in (
      e.0,
      omega (arith, e.1, c.put_plain-n.auto.dst),
      c.put_plain-n.auto.dst ∙ c.loop-stop.invariant.2,
      omega (arith, e.2, c.loop-stop.invariant.3),
      e.3 ∙ c.loop-stop.invariant.4,
      omega (arith, c.min.ensures, c.min-then-stop-i.ensures, e.0),
      omega (arith, c.min.ensures, c.min-then-stop-i.ensures, c.if-dst-j.false, e.1, c.put_plain-n.auto.dst),
    )

pub returns-then-src-i-2 : goal.returns-then-src-i-2
returns-then-src-i-2 c =
    let source : List ℕ = c.args.src.now in
    let left : List Code = codes (drop c.loop-stop.i (source)) in
    let at_last : left ≡ [] = codes_at_last (source) c.loop-stop.i (omega (arith, c.if-stop-i.false, c.loop-stop.invariant.5)) c.if-b.true c.if-src-i-2.true in
    let a = c.args in
    all_laid a.src.now a.dst.now (omega (arith, ap length (at_last))) (ap (lays c.loop-stop.dst c.loop-stop.j) (sym (at_last)) ∙ c.loop-stop.invariant.4)

pub loop-stop-preserved-then-e : goal.loop-stop-preserved-then-e
loop-stop-preserved-then-e c =
    let source : List ℕ = c.args.src.now in
    let left : List Code = codes (drop c.loop-stop.i (source)) in
    let at-known : left ≡ byte c.meant.result ∷ codes (drop (c.loop-stop.i + 1 + 1) (source)) = codes_at_known (source) c.loop-stop.i c.if-src-i-2.false c.if-b.true c.if-e.true c.meant.ensures in (
      search rules,
      simp length-set (omega (arith, c.if-stop-i.false)),
      search rules,
      omega (arith, ap length (at-known)),
      lay_byte c.loop-stop.dst c.loop-stop.j (at-known) c.loop-stop.invariant.4,
      c.loop-stop.invariant.5,
      simp length-set (omega (arith, c.if-stop-i.false, c.loop-stop.invariant.6)),
    )

pub loop-stop-preserved-else-e : goal.loop-stop-preserved-else-e
loop-stop-preserved-else-e c =
    let source : List ℕ = c.args.src.now in
    let left : List Code = codes (drop c.loop-stop.i (source)) in
    let at_other : left ≡ as_found ∷ codes (drop (c.loop-stop.i + 1 + 1) (source)) = codes_at_other (source) c.loop-stop.i c.if-src-i-2.false c.if-b.true c.if-e.false in (
      search rules,
      omega (arith, c.if-stop-i.false, c.loop-stop.invariant.6),
      search rules,
      omega (arith, ap length (at_other)),
      lay-found c.loop-stop.dst c.loop-stop.j (at_other) c.loop-stop.invariant.4,
      c.loop-stop.invariant.5,
      omega (arith, c.if-stop-i.false, c.loop-stop.invariant.6),
    )

pub loop-stop-preserved : goal.loop-stop-preserved
loop-stop-preserved c =
    let source : List ℕ = c.args.src.now in
    let left : List Code = codes (drop c.loop-stop.i (source)) in
    let at_byte : left ≡ byte (get_or (source) c.loop-stop.i 0) ∷ codes (drop (c.loop-stop.i + 1) (source)) = codes_at_byte (source) c.loop-stop.i (omega (arith, c.if-stop-i.false, c.loop-stop.invariant.5)) c.if-b.false in (
      omega (arith, c.if-stop-i.false, c.loop-stop.invariant.5),
      simp length-set (omega (arith, c.if-stop-i.false)),
      search rules,
      omega (arith, ap length (at_byte)),
      lay_byte c.loop-stop.dst c.loop-stop.j (at_byte) c.loop-stop.invariant.4,
      c.loop-stop.invariant.5,
      simp length-set (omega (arith, c.if-stop-i.false, c.loop-stop.invariant.6)),
    )

pub bounds-src-i : goal.bounds-src-i
bounds-src-i c = omega arith

pub overflow_add-i-in-loop-stop : goal.overflow_add-i-in-loop-stop
overflow_add-i-in-loop-stop c = omega arith

pub overflow_add-j-in-loop-stop : goal.overflow_add-j-in-loop-stop
overflow_add-j-in-loop-stop c = omega arith

pub bounds-dst-at : goal.bounds-dst-at
bounds-dst-at c = omega arith

pub loop-stop-smaller-then-e : goal.loop-stop-smaller-then-e
loop-stop-smaller-then-e c = omega arith

pub loop-stop-smaller-else-e : goal.loop-stop-smaller-else-e
loop-stop-smaller-else-e c = omega arith

pub bounds-dst-at-else-b : goal.bounds-dst-at-else-b
bounds-dst-at-else-b c = omega arith

pub loop-stop-smaller : goal.loop-stop-smaller
loop-stop-smaller c = omega arith
