-- The queue rule as a demand on any read of the packet queue, and six wrong reads that break it: those of document 01's "What the contracts have to say" and of its list
-- of what is easy to get wrong, and one that gives another frame than a packet's. That ours keeps it and that each of the six breaks it is proved in proofs/Wrong.antt.
-- Assumes nothing.
use Rattle.std.specs.Prelude.{ℕ, true, false, ◌≢◌, ◌≡◌, List, [], ◌++◌, eqb, Ok, Some, None}
use Rattle.choice.specs.Pick.{pick}
use Rattle.protocol.specs.declared.ModulatorFrame.{ModulatorFrame}
use Rattle.protocol.specs.declared.ModulatorFrame.TheVariants.{Preamble, EndOfTransmission}
use Rattle.packets.specs.declared.PacketQueue.{PacketQueue}
use Rattle.packets.specs.declared.PacketRead.{PacketRead}
use Rattle.packets.specs.Queue.{is_empty, here, advanced, not_read, read_next}
use Rattle.packets.specs.Promises.{of_packets, Sound}
use Rattle.packet_rule.specs.Left.{left_of}
use Rattle.packet_rule.specs.Promises.{given}

-- what the queue rule asks of one read
pub record Rule (read : PacketQueue → List ℕ → PacketRead) : Type 0 where
  -- what it gives stands first in what was left, and the rest is left
  pub takes : (q : PacketQueue) (store : List ℕ) → Sound q store → left_of q store ≡ given (read q store) ++ left_of (read q store).queue store
  -- an end comes only when nothing is left
  pub ends : (q : PacketQueue) (store : List ℕ) → Sound q store → (read q store).answer ≡ Ok (Some EndOfTransmission) → left_of q store ≡ []
  -- while something is left a frame is given
  pub gives : (q : PacketQueue) (store : List ℕ) → Sound q store → left_of q store ≢ [] → given (read q store) ≢ []
  -- no frame is given but a packet's LSF, its data and the end
  pub gives_packets : (q : PacketQueue) (store : List ℕ) (frame : ModulatorFrame) → (read q store).answer ≡ Ok (Some frame) → of_packets frame ≡ true
  -- a place is held until the read behind its last frame, so that an end is given there
  pub holds : (q : PacketQueue) (store : List ℕ) → Sound q store → given (read q store) ≢ [] → is_empty (read q store).queue ≡ false
  -- and no later call is answered 8
  pub stays_sound : (q : PacketQueue) (store : List ℕ) → Sound q store → Sound (read q store).queue store

-- what of this is asked of packets' frames alone, in the same words: a read may give other frames too
pub record FramesRule (read : PacketQueue → List ℕ → PacketRead) : Type 0 where
  pub takes : (q : PacketQueue) (store : List ℕ) → Sound q store → left_of q store ≡ given (read q store) ++ left_of (read q store).queue store
  pub ends : (q : PacketQueue) (store : List ℕ) → Sound q store → (read q store).answer ≡ Ok (Some EndOfTransmission) → left_of q store ≡ []
  pub gives : (q : PacketQueue) (store : List ℕ) → Sound q store → left_of q store ≢ [] → given (read q store) ≢ []
  pub holds : (q : PacketQueue) (store : List ℕ) → Sound q store → given (read q store) ≢ [] → is_empty (read q store).queue ≡ false
  pub stays_sound : (q : PacketQueue) (store : List ℕ) → Sound q store → Sound (read q store).queue store

-- ours keeps it
abbrev pub RuleIsKept : Type 0
RuleIsKept = Rule read_next

-- ---- wrong reads

abbrev pub with_queue : PacketRead → PacketQueue → PacketRead
with_queue r q = record { answer = r.answer; queue = q }

-- only keys up and ends
abbrev pub only_ends : PacketQueue → List ℕ → PacketRead
only_ends q store = not_read (Ok (Some EndOfTransmission)) q

-- repeats what it gave
abbrev pub repeats : PacketQueue → List ℕ → PacketRead
repeats q store = with_queue (read_next q store) q

-- frees a place with its last frame
abbrev pub frees_at_once : PacketQueue → List ℕ → PacketRead
frees_at_once q store =
    let r = read_next q store in with_queue r (pick (eqb (here r.queue).sent (here r.queue).len) (advanced r.queue) r.queue)

-- clears the full flag only when the queue is empty
abbrev pub stays_full : PacketQueue → PacketQueue → PacketQueue
stays_full q to = record { places = to.places; next = to.next; curr = to.curr; full = pick (is_empty to) false q.full }

abbrev pub clears_when_empty : PacketQueue → List ℕ → PacketRead
clears_when_empty q store = let r = read_next q store in with_queue r (stays_full q r.queue)

-- sends four full places as nothing
abbrev pub four_are_none : PacketQueue → List ℕ → PacketRead
four_are_none q store = pick (eqb q.next q.curr) (not_read (Ok None) q) (read_next q store)

-- gives a preamble where nothing waits
abbrev pub keys_up_again : PacketQueue → List ℕ → PacketRead
keys_up_again q store = pick (is_empty q) (not_read (Ok (Some (Preamble 0))) q) (read_next q store)

-- each of them breaks the rule
abbrev pub WrongReadsBreakIt : Type 0
WrongReadsBreakIt = (Rule only_ends → ⊥) × (Rule repeats → ⊥) × (Rule frees_at_once → ⊥) × (Rule clears_when_empty → ⊥) × (Rule four_are_none → ⊥) × (Rule keys_up_again → ⊥)

-- and the first five break what is asked of packets' frames already
abbrev pub FiveBreakFramesRule : Type 0
FiveBreakFramesRule = (FramesRule only_ends → ⊥) × (FramesRule repeats → ⊥) × (FramesRule frees_at_once → ⊥) × (FramesRule clears_when_empty → ⊥) × (FramesRule four_are_none → ⊥)
