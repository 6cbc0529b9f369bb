-- LICH acquisition begins: what the segment does that a stream frame brings, from document 01's "From the air" and "LSF, LICH, frames" and m17core's tnc.rs. Assumes nothing.
use Rattle.std.specs.Prelude.{ℕ, List}
use Rattle.room.specs.Room.{over}
use Rattle.protocol.specs.declared.StreamFrame.{StreamFrame}
use Rattle.lich.specs.declared.LichCollection.{LichCollection}
use Rattle.lich.specs.Lich.{new_collection, with_segment}
use Rattle.state.specs.declared.State.TheVariants.{RxAcquiringStream}
use Rattle.radio.specs.declared.Radio.{Radio}
use Rattle.radio.specs.declared.Heard.{Heard}
use Rattle.radio.specs.Radio.{turned}

-- a collection with the segment that a frame brings
abbrev pub with_frame : StreamFrame → LichCollection → LichCollection
with_frame f c = with_segment f.lich_idx f.lich_part c

-- segments are being collected, and a message that waits goes on waiting
abbrev pub collecting : Radio → LichCollection → Heard
collecting r c = turned (RxAcquiringStream c.mask) r

-- acquisition restarts: of a new collection this frame's segment has been heard
unfoldable pub restarted : Radio → StreamFrame → List ℕ → Heard × List ℕ
restarted r f rx = (collecting r (with_frame f new_collection), over (with_frame f new_collection).segments rx)
