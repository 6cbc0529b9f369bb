-- What is promised of events, from document 01. Each is proved in proofs/Kept.antt. Assumes nothing.
use Rattle.std.specs.Prelude.{ℕ, ◌+◌, ◌≤◌, ◌<◌, true, ◌≡◌, List, length, get_or}
use Rattle.event_input.specs.declared.Next.TheVariants.{Complete}
use Rattle.event_input.specs.Events.{known, body_len, next_at}

-- an event that is answered as whole is one: its kind is known and its body lies inside
pub record Whole (s : List ℕ) (at kind start next : ℕ) : Type 0 where
  pub inside : at < length s
  pub kind_is : kind ≡ get_or s at 0
  pub starts : start ≡ at + 1
  pub ends : next ≡ at + 1 + body_len (get_or s at 0)
  pub within : next ≤ length s
  pub is_known : known (get_or s at 0) ≡ true

abbrev pub CompleteIsWhole : Type 0
CompleteIsWhole = (s : List ℕ) (at kind start next : ℕ) → next_at s at ≡ Complete kind start next → Whole s at kind start next
