-- `event_step::number` meets its contract. Assumes nothing.
use Rattle.std.proofs.Common.{sym, ◌∙◌}
use Rattle.event_step.proofs.Numbers.{behind-at, behind-done}
use Rattle.event_step.proofs.number.Goals as goal

pub loop-byte-preserved : goal.loop-byte-preserved
loop-byte-preserved c = sym (behind-at c.args.bytes.now c.loop-byte.n c.loop-byte.byte-index c.loop-byte-test.true) ∙ c.loop-byte.invariant

pub returns : goal.returns
returns c = sym (behind-done c.args.bytes.now c.loop-byte.n c.loop-byte.byte-index c.loop-byte-test.false) ∙ c.loop-byte.invariant
