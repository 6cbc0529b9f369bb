-- `event_open::take_open` meets its contract. Assumes nothing.
use Rattle.choice.specs.Pick.{not_yes, not_no}
use Rattle.event_open.proofs.Runs.{run_no, run-yes, within}
use Rattle.std.proofs.Common.{ap}
use mathlib.Core.Bool.{not}
use Rattle.event_open.proofs.take_open.Goals as goal

pub returns-then-not-may_run : goal.returns-then-not-may_run
returns-then-not-may_run c =
    let a = c.args in
    run_no a.before a.src.now a.at a.dst.now a.wrote a.reader.now a.packets a.streams (not_no c.may_run.ensures (ap not c.if-not-may_run.true))

pub keep_bytes-run-requires : goal.keep_bytes-run-requires
keep_bytes-run-requires c =
    let a = c.args in
    within a.before a.src.now a.at a.dst.now a.wrote a.reader.now a.packets a.streams (not_yes c.may_run.ensures (ap not c.if-not-may_run.false))

pub returns : goal.returns
returns c =
    let a = c.args in
    run-yes a.before a.src.now a.at a.dst.now a.wrote a.reader.now a.packets a.streams c.keep_bytes-run.ensures (not_yes c.may_run.ensures (ap not c.if-not-may_run.false))
