-- `kiss_read::decode_payload` meets its contract. Assumes nothing.
use Rattle.std.proofs.Common.{◌+◌, ◌≡◌, ◌≤◌, ◌<◌, length, slice_range, Err, arith, rules}
use Rattle.std.proofs.lemmas.Grind.{common_steps}
use Rattle.std.proofs.lemmas.Result.{err_from_is_err_and}
use Rattle.kiss_layout.specs.declared.KissError.TheVariants.{MalformedKissFrame}
use Rattle.kiss_layout.specs.Scan.{is_fend}
use Rattle.kiss_layout.proofs.Scans.{run_within}
use Rattle.kiss_read.proofs.Payloads.{decoded_headless, decoded_open, decoded_content}
use Rattle.kiss_read.proofs.decode_payload.Goals as goal

pub overflow_add-leading_fends : goal.overflow_add-leading_fends
overflow_add-leading_fends c = omega (arith, c.leading_fends.ensures, run_within is_fend c.args.frame.now)

pub returns-in_err-behind : goal.returns-in_err-behind
returns-in_err-behind c =
    let a = c.args in
    let short : length a.frame.now < c.leading_fends.result + 1 = grind (arith, common_steps) in
    let refused : c.from_residual.result ≡ Err MalformedKissFrame = search (rules, err_from_is_err_and) in
    rw refused (decoded_headless a.frame.now a.out.now c.leading_fends.ensures (omega arith))

pub returns-then-behind-len : goal.returns-then-behind-len
returns-then-behind-len c =
    let a = c.args in
    let fits : c.leading_fends.result + 1 ≤ length a.frame.now = grind (arith, common_steps) in
    let part : c.in_ok-behind.behind.now ≡ slice_range a.frame.now (c.leading_fends.result + 1) (length a.frame.now) = grind (arith, common_steps) in
    decoded_open a.frame.now a.out.now _ c.leading_fends.ensures fits part c.to_fend-len.ensures c.if-behind-len.true

pub returns : goal.returns
returns c =
    let a = c.args in
    let fits : c.leading_fends.result + 1 ≤ length a.frame.now = grind (arith, common_steps) in
    let part : c.in_ok-behind.behind.now ≡ slice_range a.frame.now (c.leading_fends.result + 1) (length a.frame.now) = grind (arith, common_steps) in
    decoded_content a.frame.now a.out.now _ c.leading_fends.ensures fits part c.to_fend-len.ensures c.if-behind-len.false
    c.unescape.result c.unescape.new.dst c.unescape.ensures
