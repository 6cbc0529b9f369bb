-- One event's line in a room for it, the events of a block, and what is printed where the input ends, from document 01's "Event program" and its answer 9. Assumes nothing.
use Rattle.std.specs.Prelude.{ℕ, zero, suc, ◌+◌, ◌-◌, Bool, List, [], ◌∷◌, leb, length, take}
use Rattle.std.proofs.lemmas.List.Edits.{sets}
use Rattle.choice.specs.Pick.{pick, and}
use Rattle.event_input.specs.Events.{known, body_len}
use Rattle.event_line.specs.Line.{line_of}
use Rattle.event_answer.specs.Answer.{MOST, LINE}
use Rattle.event_step.specs.Step.{Turn, applied}
use Rattle.event_block.specs.Spot.{Spot, spot, shown}

-- ---- one event

abbrev pub line_for : ℕ → Turn → List ℕ
line_for kind t = line_of kind t.number t.ptt (shown t)

abbrev pub behind : ℕ → Turn → List ℕ → ℕ → Spot
behind kind t room n = spot t.world t.bytes (sets room n (line_for kind t)) (n + length (line_for kind t))

unfoldable pub turned : ℕ → List ℕ → Spot → Spot
turned kind body p = behind kind (applied kind body p.world p.bytes) p.room p.wrote

-- ---- a block

pub record Block : Type 0 where
  pub used : ℕ
  pub left : Spot

abbrev pub block : ℕ → Spot → Block
block u p = record { used = u; left = p }

-- the kind is known, and its whole body follows
unfoldable pub complete : ℕ → List ℕ → Bool
complete kind s = and (known kind) (leb (body_len kind) (length s))

-- there is place for a longest line, and the event is whole
unfoldable pub ready : ℕ → List ℕ → Spot → Bool
ready kind s p = and (leb LINE (length p.room - p.wrote)) (complete kind s)

-- passes over n bytes, and then takes event by event, as long as the next one is ready
unfoldable pub walk : ℕ → List ℕ → ℕ → Spot → Block
walk n [] u p = block u p
walk (suc n) (x ∷ s) u p = walk n s u p
walk zero (k ∷ s) u p = pick (ready k s p) (walk (body_len k) s (u + 1 + body_len k) (turned k (take (body_len k) s) p)) (block u p)

-- a room for fewer than 255 bytes: nothing is done
unfoldable pub block_run : List ℕ → Spot → Block
block_run s p = pick (leb MOST (length p.bytes)) (walk 0 s 0 p) (block 0 p)

-- ---- the end

-- where no event stands whole: at the end of the input nothing, else the kind with 9
unfoldable pub refusal : List ℕ → Bool → List ℕ
refusal [] on = []
refusal (k ∷ s) on = line_of k 9 on []
