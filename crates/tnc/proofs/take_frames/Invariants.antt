-- `tnc::take_frames` meets its contract. The invariant: what is left to take gives what all of it gives. Assumes nothing.
use Rattle.std.proofs.Common.{◌≡◌}
use Rattle.kiss_calls.specs.Promises.{Sound}
use Rattle.host_frame.specs.Promises.{Sound as HostSound}
use Rattle.tnc_drain.specs.Drain.{reader_box, host_box, drained}
use Rattle.tnc_drain.proofs.Drains.{searched}
use Rattle.tnc.proofs.take_frames.Given as goal

abbrev pub invariant-loop-held : goal.invariant-loop-held
invariant-loop-held l =
    (drained (reader_box l.initial.held l.initial.reader) (host_box l.initial.obeyed l.initial.packets l.initial.streams) ≡ drained (reader_box l.held l.reader) (host_box l.obeyed l.packets l.streams))
    × Sound (reader_box l.held l.reader) × HostSound (host_box l.obeyed l.packets l.streams)

abbrev pub decreases-loop-held : goal.decreases-loop-held
decreases-loop-held l = searched (reader_box l.held l.reader)
