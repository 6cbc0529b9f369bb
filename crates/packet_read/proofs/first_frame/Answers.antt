-- `packet_read::first_frame` meets its contract. Assumes nothing.
use Rattle.std.proofs.Common.{sym, arith}
use borrow.Author.Tests.{le-leb, lt-leb}
use lib.ListN.{length}
use lib.Seq.{length-take-le}
use Rattle.choice.specs.Pick.{pick_yes, pick_no}
use Rattle.packets.specs.Frames.{zeros, padded, chunk}
use Rattle.packet_read.proofs.first_frame.Goals as goal

pub returns-then-bytes-gt25 : goal.returns-then-bytes-gt25
unfolding chunk
returns-then-bytes-gt25 c = pick_no _ (lt-leb (length c.args.bytes.now) 25 c.if-bytes-gt25.true) (rw c.copy_from_slice.ensures.after)

pub returns : goal.returns
unfolding chunk padded zeros
returns c = pick_yes _ (le-leb (length c.args.bytes.now) 25 c.if-bytes-gt25.false) (rw c.copy_from_slice-2.ensures.after)

pub slice_bounds-copy_from_slice-end-then-bytes-gt25 : goal.slice_bounds-copy_from_slice-end-then-bytes-gt25
slice_bounds-copy_from_slice-end-then-bytes-gt25 c = sym (length-take-le 25 c.args.bytes.now (omega (arith, c.if-bytes-gt25.true)))

pub copy_from_slice-requires : goal.copy_from_slice-requires
copy_from_slice-requires c = sym (length-take-le 25 c.args.bytes.now (omega (arith, c.if-bytes-gt25.true)))
