-- `kiss_scan::front_len` meets its contract. Assumes nothing.
use Rattle.std.proofs.Common.{◌∙◌}
use Rattle.kiss_reader.proofs.Fronts.{to_the_end, front_measured}
use Rattle.kiss_scan.proofs.front_len.Goals as goal

pub returns : goal.returns
returns c = c.then_some.ensures ∙ front_measured c.args.h.now _ c.to_fend-n.result (to_the_end 1 c.args.h.now) c.to_fend-n.ensures
