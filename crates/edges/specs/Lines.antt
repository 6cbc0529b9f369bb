-- Numbers, lines and blocks of the event program, from document 01's "Event program".
-- Each fact rules out the wrong answer that it is named after. Assumes nothing.
use Rattle.std.specs.Prelude.{ℕ, ◌≡◌, List, [], ◌∷◌, length}
use Rattle.any_calls.specs.Calls.{World}
use Rattle.event_step.specs.Numbers.{number_of}
use Rattle.event_block.specs.Spot.{spot, stepped}
use Rattle.event_block.specs.Block.{block_run}

pub record Numbers : Type 0 where
  -- a byte counts 256 of the next one
  pub counts_255 : number_of (1 ∷ 0 ∷ []) ≡ 256
  -- high byte first
  pub low_byte_first : number_of (1 ∷ 2 ∷ []) ≡ 258

pub record Lines : Type 0 where
  -- the next line begins where this one ends: where it has no room, where it would have begun
  pub line_at_the_front : (w : World) → (stepped 0 [] (spot w [] [] 1)).wrote ≡ 1
  -- an event is applied only where a longest line has room, of 518 bytes
  pub room_for_255 : (w : World) (bytes room more : List ℕ) → length bytes ≡ 255 → length room ≡ 517 → length more ≡ 518
      → ((block_run (8 ∷ []) (spot w bytes room 0)).used ≡ 0) × ((block_run (8 ∷ []) (spot w bytes more 0)).used ≡ 1)
