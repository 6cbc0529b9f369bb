-- `event_open::may_run` meets its contract. Assumes nothing.
use Rattle.std.proofs.Common.{rules}
use Rattle.choice.specs.Pick.{callees}
use Rattle.event_open.specs.Inside.{begins}
use Rattle.event_open.proofs.may_run.Goals as goal
use Rattle.event_open.proofs.may_run.Goals.{then-src-at-via-then-src-at, then-src-at-via-else-src-at+then-src-at-ne-HOST, then-src-at-via-else-src-at+else-src-at-ne-HOST+then-room-wrote}

pub returns-then-src-at : goal.returns-then-src-at
unfolding begins
returns-then-src-at c =
    elim c.then-src-at.branch [
      | then-src-at-via-then-src-at w ↦ search (rules, callees)
      | then-src-at-via-else-src-at+then-src-at-ne-HOST w ↦ search (rules, callees)
      | then-src-at-via-else-src-at+else-src-at-ne-HOST+then-room-wrote w ↦ search (rules, callees)
    ]

pub returns : goal.returns
unfolding begins
returns c = search (rules, callees)
