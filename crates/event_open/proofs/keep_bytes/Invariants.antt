-- `event_open::keep_bytes` meets its contract. The invariant says that the run from the place reached leaves what the run from the start leaves. Assumes nothing.
use Rattle.std.proofs.Common.{◌+◌, ◌*◌, ◌≤◌, ◌≡◌}
use lib.ListN.{length, drop}
use Rattle.event_open.specs.Inside.{kept_run}
use Rattle.event_open.proofs.keep_bytes.Given as goal

abbrev pub invariant-loop-event : goal.invariant-loop-event
invariant-loop-event l =
    (l.i ≡ l.at + l.event-index * 2)
    × (l.j ≤ length l.dst)
    × (l.n ≤ length l.reader)
    × (length l.dst ≡ length l.initial.dst)
    × (length l.reader ≡ length l.initial.reader)
    × (kept_run (drop l.i l.src) l.i l.dst l.j l.reader l.n l.on ≡ kept_run (drop l.at l.src) l.at l.initial.dst l.wrote l.initial.reader l.filled l.on)
