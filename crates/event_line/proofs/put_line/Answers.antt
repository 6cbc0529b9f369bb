-- `event_line::put_line` meets its contract. Assumes nothing.
use Rattle.std.proofs.Common.{ℕ, ◌+◌, ◌-◌, ◌≤◌, ◌≡◌, ap, ◌∙◌, arith}
use mathlib.Core.Bool.{true, false}
use mathlib.Core.List.{List}
use mir.Val.{bool_byte}
use borrow.Author.Tests.{leb-true, leb-false}
use lib.Dec.{leb}
use lib.ListN.{length}
use lib.Seq.{sets, length-sets}
use Rattle.choice.specs.Pick.{not_yes, not_no}
use Rattle.std.specs.Prelude.{Ok}
use Rattle.event_line.specs.Line.{tail_of, line_of}
use Rattle.event_line.proofs.Lines.{front, one_most, flag_is, line_is, line_stored, line_long, line_least, part_stored, fits_line, written_over, written_no, written-yes}
use mathlib.Core.Bool.{not}
use Rattle.event_line.proofs.put_line.Goals as goal

pub returns-then-number-gt9 : goal.returns-then-number-gt9
returns-then-number-gt9 c = let a = c.args in written_over a.kind a.number a.ptt a.bytes.now a.dst.now a.at c.if-number-gt9.true

pub returns-then-dst-at : goal.returns-then-dst-at
returns-then-dst-at c = let a = c.args in written_no a.kind a.number a.ptt a.bytes.now a.dst.now a.at (omega arith) (omega (arith, line_least a.kind a.number a.ptt a.bytes.now))

pub returns-then-not-line_fits : goal.returns-then-not-line_fits
returns-then-not-line_fits c =
    let a = c.args in
    let l : leb (length (line_of a.kind a.number a.ptt a.bytes.now)) (length a.dst.now - a.at) ≡ false =
    not_no (c.line_fits.ensures ∙ fits_line a.kind a.number a.ptt a.bytes.now (length a.dst.now - a.at)) (ap not c.if-not-line_fits.true) in
    written_no a.kind a.number a.ptt a.bytes.now a.dst.now a.at (omega arith) (omega (arith, leb-false (length (line_of a.kind a.number a.ptt a.bytes.now)) (length a.dst.now - a.at) l))

pub slice_bounds-copy_from_slice-end : goal.slice_bounds-copy_from_slice-end
slice_bounds-copy_from_slice-end c =
    let fits_in : c.args.at + length (line_of c.args.kind c.args.number c.args.ptt c.args.bytes.now) ≤ length c.args.dst.now = let a = c.args in let l : leb (length (line_of a.kind a.number a.ptt a.bytes.now)) (length a.dst.now - a.at) ≡ true = not_yes (c.line_fits.ensures ∙ fits_line a.kind a.number a.ptt a.bytes.now (length a.dst.now - a.at)) (ap not c.if-not-line_fits.false) in omega (arith, leb-true (length (line_of a.kind a.number a.ptt a.bytes.now)) (length a.dst.now - a.at) l) in
    let a = c.args in omega (arith, fits_in, line_least a.kind a.number a.ptt a.bytes.now)

pub write_tail-requires : goal.write_tail-requires
write_tail-requires c =
    let fits_in : c.args.at + length (line_of c.args.kind c.args.number c.args.ptt c.args.bytes.now) ≤ length c.args.dst.now = let a = c.args in let l : leb (length (line_of a.kind a.number a.ptt a.bytes.now)) (length a.dst.now - a.at) ≡ true = not_yes (c.line_fits.ensures ∙ fits_line a.kind a.number a.ptt a.bytes.now (length a.dst.now - a.at)) (ap not c.if-not-line_fits.false) in omega (arith, leb-true (length (line_of a.kind a.number a.ptt a.bytes.now)) (length a.dst.now - a.at) l) in
    let a = c.args in
    let begun = part_stored a.at (a.at + 6 - a.at) a.dst.now c.copy_from_slice.new.self (omega (arith, fits_in, line_least a.kind a.number a.ptt a.bytes.now)) (ap length c.copy_from_slice.ensures.after ∙ (omega arith)) ∙ ap (sets a.dst.now a.at) c.copy_from_slice.ensures.after in
    let same_length = ap length begun ∙ length-sets a.dst.now a.at (front c.hex_digit.result c.hex_digit-2.result (48 + a.number) (48 + bool_byte a.ptt)) in
    omega (arith, same_length, fits_in, line_long a.kind a.number a.ptt a.bytes.now)

pub returns : goal.returns
returns c =
    let fits_in : c.args.at + length (line_of c.args.kind c.args.number c.args.ptt c.args.bytes.now) ≤ length c.args.dst.now = let a = c.args in let l : leb (length (line_of a.kind a.number a.ptt a.bytes.now)) (length a.dst.now - a.at) ≡ true = not_yes (c.line_fits.ensures ∙ fits_line a.kind a.number a.ptt a.bytes.now (length a.dst.now - a.at)) (ap not c.if-not-line_fits.false) in omega (arith, leb-true (length (line_of a.kind a.number a.ptt a.bytes.now)) (length a.dst.now - a.at) l) in
    let a = c.args in
    let begun = part_stored a.at (a.at + 6 - a.at) a.dst.now c.copy_from_slice.new.self (omega (arith, fits_in, line_least a.kind a.number a.ptt a.bytes.now)) (ap length c.copy_from_slice.ensures.after ∙ (omega arith)) ∙ ap (sets a.dst.now a.at) c.copy_from_slice.ensures.after in
    ap (λ (q : ℕ × List ℕ). (Ok q.0, q.1))
    (line_stored a.dst.now _ a.at _ (line_of a.kind a.number a.ptt a.bytes.now) (tail_of a.bytes.now) _ _ _ _ _ begun
    (line_is a.kind a.number a.ptt a.bytes.now _ _ _ c.hex_digit.ensures c.hex_digit-2.ensures (flag_is a.ptt))
    c.write_tail.ensures)
    ∙ written-yes a.kind a.number a.ptt a.bytes.now a.dst.now a.at (omega arith) fits_in

pub overflow_add-head-2 : goal.overflow_add-head-2
overflow_add-head-2 c = omega (arith, one_most c.args.ptt)
