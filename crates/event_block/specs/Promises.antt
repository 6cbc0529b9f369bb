-- What is promised of a run over a whole input, from document 01's "Event program". Each is proved in proofs/Whole.antt. Assumes nothing.
use Rattle.std.specs.Prelude.{ℕ, zero, suc, ◌≤◌, Bool, false, ◌≡◌, List, [], ◌∷◌, ◌++◌, length, take, drop}
use Rattle.choice.specs.Pick.{pick}
use Rattle.any_calls.specs.Calls.{World}
use Rattle.event_input.specs.Events.{body_len}
use Rattle.event_line.specs.Line.{line_of}
use Rattle.event_answer.specs.declared.EventBox.{EventBox}
use Rattle.event_answer.specs.Answer.{MOST, keyed}
use Rattle.event_step.specs.Step.{applied, world_of}
use Rattle.event_block.specs.Spot.{spot}
use Rattle.event_open.specs.Inside.{open_run}
use Rattle.event_block.specs.Block.{line_for, complete, walk, refusal, block_run}

-- all that the events of an input print, from a world and a room of bytes on, n bytes passed over first: each its line, and the first that is not whole its kind with 9
unfoldable pub printed : ℕ → List ℕ → World → List ℕ → List ℕ
printed n [] w room = []
printed (suc n) (x ∷ s) w room = printed n s w room
printed zero (k ∷ s) w room =
    pick (complete k s)
    (line_for k (applied k (take (body_len k) s) w room) ++ printed (body_len k) s (applied k (take (body_len k) s) w room).world (applied k (take (body_len k) s) w room).bytes)
    (line_of k 9 (keyed w.tnc) [])

-- whether an event stands whole at the front
unfoldable pub opens : List ℕ → Bool
opens [] = false
opens (k ∷ s) = complete k s

-- a run of the program over an input, in turns: of what is left any beginning s is looked at, with any room d, and the rest follows; it ends where no event stands whole
pub data Runs : List ℕ → World → List ℕ → List ℕ → Type 0 where
  ends : (s : List ℕ) (w : World) (room : List ℕ) → opens s ≡ false → Runs s w room (refusal s (keyed w.tnc))
  turns : (s more d out : List ℕ) (w : World) (room : List ℕ)
      → Runs (drop (block_run s (spot w room d 0)).used (s ++ more)) (block_run s (spot w room d 0)).left.world (block_run s (spot w room d 0)).left.bytes out
      → Runs (s ++ more) w room (take (block_run s (spot w room d 0)).left.wrote (block_run s (spot w room d 0)).left.room ++ out)

-- cutting the input into blocks changes nothing: whatever the turns, a run prints what the input asks
abbrev pub CutsChangeNothing : Type 0
CutsChangeNothing = (s : List ℕ) (w : World) (room out : List ℕ) → Runs s w room out → out ≡ printed 0 s w room

-- bytes that complete no frame, taken in one run, leave what their events leave one by one: from where the run ended the events go on as they would have gone from where it began, for every input and state
abbrev pub RunIsItsEvents : Type 0
RunIsItsEvents =
    (x : EventBox) (s : List ℕ) (at : ℕ) (d : List ℕ) (n : ℕ) (reader packets streams rx message bytes : List ℕ) → MOST ≤ length bytes
    → let o = open_run x s at d n reader (length packets) (length streams) in
    walk 0 (drop o.0.used s) o.0.used (spot (world_of o.0.after o.2 packets streams rx message) bytes o.1 o.0.wrote)
    ≡ walk 0 (drop at s) at (spot (world_of x reader packets streams rx message) bytes d n)
