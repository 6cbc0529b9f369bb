-- `kiss_unescape::put_plain` meets its contract. The invariant says what is left to do behind n bytes, and a block leaves as much. Assumes nothing.
use Rattle.std.proofs.Common.{◌+◌, ◌≤◌, ◌∙◌, refl, arith}
use native.Mathlib.Nat.{add-zero}
use lib.ListN.{length}
use Rattle.kiss_unescape.proofs.Steps.{chunk_in, plain-length, plain_put}
use Rattle.kiss_unescape.proofs.put_plain.Goals as goal

pub loop-block-init : goal.loop-block-init
loop-block-init c = let a = c.args in (refl, refl, (omega arith, omega arith, omega arith, rw (add-zero a.to)))

pub loop-block-preserved : goal.loop-block-preserved
loop-block-preserved c =
    let s = c.args.src.now in let l = c.loop-block in let left = l.invariant.2 in let chunks = c.as_chunks.ensures in
    let fit : l.n + 16 ≤ length s = omega (arith, l.invariant.1, chunks.front_len) in
    let room : c.args.to + l.n + 16 ≤ length l.dst = omega arith in
    let t_is = chunk_in s l.block-index chunks.front (omega (arith, chunks.front_len)) l.invariant.1 in
    let more = plain-length s _ l.n t_is fit c.none_of.ensures c.if-not-none_of.false in (
      c.store16.auto.dst ∙ l.invariant.0,
      omega (arith, l.invariant.1),
      (
        fit,
        omega (arith, room, l.invariant.0),
        omega (arith, more, left.2),
        plain_put s _ l.n t_is fit c.none_of.ensures c.if-not-none_of.false l.dst _ c.args.to c.store16.ensures room left.3,
      ),
    )

pub returns-then-dst-to-lt16 : goal.returns-then-dst-to-lt16
returns-then-dst-to-lt16 c = c.loop-block.invariant.2

pub returns-then-not-none_of : goal.returns-then-not-none_of
returns-then-not-none_of c = c.loop-block.invariant.2

pub returns : goal.returns
returns c = c.loop-block.invariant.2
