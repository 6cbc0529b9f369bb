-- `stream_read::read_lsf` meets its contract. Assumes nothing.
use Rattle.streams.specs.Queue.{lsf_read}
use Rattle.stream_read.proofs.read_lsf.Goals as goal

pub returns : goal.returns
unfolding lsf_read
returns c = rw c.copy_from_slice.ensures.after
