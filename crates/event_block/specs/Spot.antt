-- Where the lines stand, and what one event and its line leave, from document 01's "Event program". Assumes nothing.
use Rattle.std.specs.Prelude.{ℕ, min, List, take}
use Rattle.any_calls.specs.Calls.{World}
use Rattle.event_line.specs.Line.{written}
use Rattle.event_answer.specs.Answer.{MOST}
use Rattle.event_step.specs.Step.{Turn, applied}
use Rattle.event_end.specs.End.{place_after}

-- where the lines stand: the world, the room that events put bytes into, the room of the lines and how much of it is written
pub record Spot : Type 0 where
  pub world : World
  pub bytes : List ℕ
  pub room : List ℕ
  pub wrote : ℕ

abbrev pub spot : World → List ℕ → List ℕ → ℕ → Spot
spot w bytes room n = record { world = w; bytes = bytes; room = room; wrote = n }

-- the bytes that an event prints; none has more than 255 (`AtMost255` of crate event_step), so that a line has a longest length
abbrev pub shown : Turn → List ℕ
shown t = take (min t.count MOST) t.bytes

-- the event's line put from a place on: where it has no room, nothing is written and the place stays
abbrev pub laid : ℕ → Turn → List ℕ → ℕ → Spot
laid kind t room n =
    spot t.world t.bytes (written kind t.number t.ptt (shown t) room n).1 (place_after (written kind t.number t.ptt (shown t) room n).0 n)

-- in a room for a longest line this is `turned` of specs/Block.antt
unfoldable pub stepped : ℕ → List ℕ → Spot → Spot
stepped kind body p = laid kind (applied kind body p.world p.bytes) p.room p.wrote
