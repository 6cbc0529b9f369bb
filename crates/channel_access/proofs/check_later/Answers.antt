-- `channel_access::check_later` meets its contract. Assumes nothing.
use Rattle.std.proofs.Common.{refl, arith}
use Rattle.channel.specs.Access.{check_later}
use Rattle.channel.proofs.Bounds.{clock_bound}
use Rattle.channel_access.proofs.check_later.Goals as goal

pub overflow_add-result : goal.overflow_add-result
overflow_add-result c = omega (arith, clock_bound c.args.channel c.requires)

pub returns : goal.returns
unfolding check_later
returns c = refl
