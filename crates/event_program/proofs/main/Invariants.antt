-- What the loop of `event_program::main` keeps. Assumes nothing.
use Rattle.std.proofs.Common.{◌≤◌}
use Rattle.event_program.proofs.main.Given as goal

abbrev pub invariant-loop : goal.invariant-loop
invariant-loop l = (l.session.from ≤ l.session.held) × (l.session.held ≤ 65536)
