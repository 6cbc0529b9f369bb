-- `examples::every_byte` meets its contract: the call at each index gave that index. Assumes nothing.
use Rattle.std.proofs.Common.{arith}
use Rattle.examples.proofs.every_byte.Goals as goal

pub returns : goal.returns
returns c = λ k h. let step = (c.from_fn.ensures.items.at k 0 h).2 in omega (arith, step)
