-- `kiss_escape::escape` meets its contract. Assumes nothing.
use Rattle.std.proofs.Common.{◌≤◌, sym, ◌∙◌, arith}
use lib.ListN.{length}
use Rattle.std.specs.Prelude.{Ok}
use Rattle.kiss_layout.specs.Escape.{esc}
use Rattle.kiss_layout.proofs.Escapes.{esc-length, escaped-yes, escaped_no}
use Rattle.kiss_escape.proofs.escape.Goals as goal
use Rattle.kiss_escape.proofs.escape.Goals.{then-dst-src+else-dst-escaped_len, else-dst-src}

pub returns-then-dst-escaped_len : goal.returns-then-dst-escaped_len
returns-then-dst-escaped_len c = let a = c.args in sym (escaped_no a.src.now a.dst.now (omega (arith, c.escaped_len.ensures, c.if-dst-escaped_len.true)))

pub returns : goal.returns
returns c =
    let fits : let a = c.args in length (esc a.src.now) ≤ length a.dst.now = let a = c.args in elim c.if-dst-src.branch [ then-dst-src+else-dst-escaped_len w ↦ omega arith | else-dst-src w ↦ omega (arith, esc-length a.src.now) ] in
    let a = c.args in
    (λ t. (Ok (c.put_escaped-n.ensures.0 t), c.put_escaped-n.ensures.1 t)) ∙ sym (escaped-yes a.src.now a.dst.now (fits))

pub put_escaped-n-requires : goal.put_escaped-n-requires
put_escaped-n-requires c =
    let fits : let a = c.args in length (esc a.src.now) ≤ length a.dst.now = let a = c.args in elim c.if-dst-src.branch [ then-dst-src+else-dst-escaped_len w ↦ omega arith | else-dst-src w ↦ omega (arith, esc-length a.src.now) ] in
    fits
