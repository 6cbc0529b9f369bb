-- What accepting a packet leaves: document 01's "The TNC" of a queue with a place for it, and "Bounds for 8" of a place that is none. Assumes nothing.
use Rattle.std.specs.Prelude.{ℕ, ltb, Ok, Err}
use Rattle.choice.specs.Pick.{pick}
use Rattle.packets.specs.declared.PacketQueue.{PacketQueue}
use Rattle.packets.specs.declared.Push.TheVariants.{Queued}
use Rattle.kiss_layout.specs.declared.PushError.TheVariants.{OutOfBounds}
use Rattle.packets.specs.declared.Pushed.{Pushed}
use Rattle.packets.specs.Queue.{with_packet}

unfoldable pub accepted_as : PacketQueue → ℕ → Pushed
accepted_as q len = pick (ltb q.next 4) (record { answer = Ok Queued; queue = with_packet q len }) (record { answer = Err OutOfBounds; queue = q })
