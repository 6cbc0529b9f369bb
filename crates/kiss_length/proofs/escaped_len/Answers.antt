-- `kiss_length::escaped_len` meets its contract. Assumes nothing.
use Rattle.std.proofs.Common.{◌^◌, ◌∙◌, arith, rules, tests}
use Rattle.std.proofs.lemmas.Iterator.{YieldsList-from_slice, YieldsList-from_map}
use Rattle.std.proofs.lemmas.Iterator.Consumers.{sum_by_from_yields_List, fits_by_from_yields_list}
use Rattle.kiss_layout.proofs.Escapes.{esc-length}
use Rattle.kiss_length.proofs.Lengths.{places, places-all}
use Rattle.kiss_length.proofs.escaped_len.Goals as goal

pub sum-requires-clause-fits : goal.sum-requires-clause-fits
sum-requires-clause-fits c =
    let s = c.args.src.now in
    fits_by_from_yields_list places s c.map.result (2 ^ 64)
    (YieldsList-from_map _ places (YieldsList-from_slice s (cc)) c.map.ensures.closure (λ x b q k. search (rules, tests)))
    (omega (arith, places-all s, esc-length s))

pub returns : goal.returns
returns c =
    let s = c.args.src.now in
    sum_by_from_yields_List places s c.map.result _ c.sum.ensures.ran
    (YieldsList-from_map _ places (YieldsList-from_slice s (cc)) c.map.ensures.closure (λ x b q k. search (rules, tests)))
    ∙ places-all s
