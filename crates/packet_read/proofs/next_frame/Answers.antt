-- `packet_read::next_frame` meets its contract. The invariant: what is left of the walk gives what all of it gives. Assumes nothing.
use Rattle.std.proofs.Common.{refl, sym, ◌∙◌, arith}
use borrow.Author.Tests.{eq-eqb, ne_eqb}
use Rattle.choice.specs.Pick.{pick_yes, pick_no}
use Rattle.packets.specs.Queue.{advanced, turn}
use Rattle.packets.proofs.Bounds.{at_here, sound_advanced}
use Rattle.packet_read.proofs.Walks.{yields, passes, ended, going}
use Rattle.packet_read.proofs.next_frame.Goals as goal

pub loop-left-init : goal.loop-left-init
loop-left-init c = (refl, c.requires, omega arith)

pub loop-left-preserved : goal.loop-left-preserved
unfolding turn advanced
loop-left-preserved c =
    let s = c.args.store.now in let q = c.loop-left.rest in
    let on = going c.loop-left.left c.if-left-is_empty.false in
    let same = pick_no _ (sym c.is_empty.ensures ∙ on.1) (pick_no _ c.if-place.false (pick_yes _ (eq-eqb _ _ c.if-place-2.false) refl)) in
    (passes s q c.loop-left.left on.0 c.loop-left.invariant.0 same, sound_advanced q c.loop-left.invariant.1, omega (arith, on.0))

pub returns-then-left-is_empty : goal.returns-then-left-is_empty
returns-then-left-is_empty c =
    ended c.loop-left.left c.loop-left.rest c.args.store.now c.is_empty.ensures c.if-left-is_empty.true ∙ sym c.loop-left.invariant.0

pub returns-then-place : goal.returns-then-place
unfolding turn
returns-then-place c =
    let on = going c.loop-left.left c.if-left-is_empty.false in
    yields c.args.store.now c.loop-left.rest c.loop-left.left on.0 c.loop-left.invariant.0
    (pick_no _ (sym c.is_empty.ensures ∙ on.1) (pick_yes _ c.if-place.true c.lsf_read.ensures))

pub returns-then-place-2 : goal.returns-then-place-2
unfolding turn
returns-then-place-2 c =
    let on = going c.loop-left.left c.if-left-is_empty.false in
    yields c.args.store.now c.loop-left.rest c.loop-left.left on.0 c.loop-left.invariant.0
    (pick_no _ (sym c.is_empty.ensures ∙ on.1) (pick_no _ c.if-place.false (pick_no _ (ne_eqb _ _ c.if-place-2.true) c.data_read.ensures)))

pub offset_bounds-rest-rest : goal.offset_bounds-rest-rest
offset_bounds-rest-rest c = omega (arith, at_here c.loop-left.rest c.loop-left.invariant.1)

pub bounds-rest-rest : goal.bounds-rest-rest
bounds-rest-rest c = omega (arith, at_here c.loop-left.rest c.loop-left.invariant.1)

pub lsf_read-requires : goal.lsf_read-requires
lsf_read-requires c = c.loop-left.invariant.1

pub data_read-requires : goal.data_read-requires
data_read-requires c = c.loop-left.invariant.1

pub overflow_add-rest : goal.overflow_add-rest
overflow_add-rest c = omega (arith, at_here c.loop-left.rest c.loop-left.invariant.1)

pub overflow_sub-left : goal.overflow_sub-left
overflow_sub-left c = omega (arith, (going c.loop-left.left c.if-left-is_empty.false).0)

pub loop-left-smaller : goal.loop-left-smaller
loop-left-smaller c = omega (arith, (going c.loop-left.left c.if-left-is_empty.false).0)
