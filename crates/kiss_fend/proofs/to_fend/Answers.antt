-- `kiss_fend::to_fend` meets its contract. Assumes nothing.
use Rattle.std.proofs.Common.{◌-◌, ◌*◌, ◌/◌, ◌≡◌, ◌∙◌, length, take, drop, arith, rules, tests}
use Rattle.std.proofs.lemmas.Iterator.{YieldsList-from_slice}
use Rattle.std.proofs.lemmas.Iterator.Consumers.{count_from_yields_List}
use Rattle.std.proofs.lemmas.Iterator.Search.{YieldsList-from_take_while}
use Rattle.std.proofs.lemmas.List.Folds.{length-prefix_len}
use Rattle.std.proofs.lemmas.Slice.{between_to_end}
use Rattle.std.specs.Simd.{first_chunks}
use Rattle.blocks.specs.Block.{without}
use Rattle.kiss_layout.specs.Escape.{FEND}
use Rattle.kiss_layout.specs.Scan.{not_fend, run_of}
use Rattle.kiss_fend.proofs.Past.{clear, run-while, run-blocks}
use Rattle.kiss_fend.proofs.to_fend.Goals as goal

pub returns : goal.returns
returns c =
    let s = c.args.s.now in
    let m = length s / 16 in
    let blocks = first_chunks 16 m s in
    let n = c.count-passed.result in
    let passed : n ≡ clear m s =
    count_from_yields_List c.take_while.result _ c.count-passed.ensures.ran
    (YieldsList-from_take_while _ (without FEND) (YieldsList-from_slice blocks (cc)) c.take_while.ensures.closure c.take_while.ensures.done (λ x b q k. search (rules, tests)))
    ∙ length-prefix_len (without FEND) blocks in
    let tail : take (length s - 16 * n) (drop (16 * n) s) ≡ drop (16 * n) s = between_to_end s (16 * n) (length s) (omega arith) in
    let rest : c.count.result ≡ run_of not_fend (drop (16 * n) s) =
    count_from_yields_List c.take_while-2.result _ c.count.ensures.ran
    (YieldsList-from_take_while _ not_fend (YieldsList-from_slice (drop (16 * n) s) (cc)) c.take_while-2.ensures.closure c.take_while-2.ensures.done (λ x b q k. search (rules, tests)))
    ∙ run-while not_fend (drop (16 * n) s) in
    rw rest (rw passed (run-blocks m s (omega arith)))
