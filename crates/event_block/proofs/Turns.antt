-- What `step` leaves, put together of what its callees said. Assumes nothing.
use Prim.Native.Nat.{ℕ, ◌≤◌, min}
use mathlib.Core.Path.{◌≡◌, ap, ◌∙◌}
use mathlib.Core.List.{List}
use native.Mathlib.Omega.{arith}
use borrow.Author.Tests.{leb-true}
use lib.ListN.{length, take}
use Rattle.choice.specs.Pick.{pick_all}
use Rattle.any_calls.specs.Calls.{World}
use Rattle.std.specs.Prelude.{Result, ℕ}
use Rattle.event_line.specs.declared.LineError.{LineError}
use Rattle.event_line.specs.Line.{written}
use Rattle.event_answer.specs.declared.Applied.{Applied}
use Rattle.event_answer.specs.Answer.{MOST}
use Rattle.event_step.specs.Step.{Turn, not_made, applied, world_of, turn_of}
use Rattle.event_end.specs.End.{place_after}
use Rattle.event_block.specs.Spot.{spot, laid, stepped}

-- the bytes that are shown stand in the room: with a room for fewer than 255 the event is refused, and has none
few : (k : ℕ) (b : List ℕ) (w : World) (room : List ℕ) → min (applied k b w room).count MOST ≤ length room
unfolding applied not_made
few k b w room =
    pick_all (λ (t : Turn). min t.count MOST ≤ length room) _ _ _
    (λ e. let h : MOST ≤ length room = leb-true _ _ e in omega (arith, h))
    (λ e. omega arith)

module _ (k : ℕ) (b : List ℕ) (w : World) (room : List ℕ) (a : Applied) (r p s rx m y d : List ℕ) (n : ℕ) (e : turn_of a r p s rx m y ≡ applied k b w room) where
  pub within : (c : ℕ) → c ≡ min a.count MOST → length y ≡ length room → c ≤ length y
  within c q l =
      let same : min a.count MOST ≡ min (applied k b w room).count MOST = ap (λ (t : Turn). min t.count MOST) e in
      omega (arith, q, l, same, few k b w room)

  pub step_is : (l : (Result ℕ LineError)) (x : List ℕ) (c z : ℕ) → c ≡ min a.count MOST → (l, x) ≡ written k a.number a.ptt (take c y) d n → z ≡ place_after l n → spot (world_of a.after r p s rx m) y x z ≡ stepped k b (spot w room d n)
  unfolding stepped
  step_is l x c z q f g =
      (λ j. spot (world_of a.after r p s rx m) y x (g j))
      ∙ ap (λ (u : Result ℕ LineError × List ℕ). spot (world_of a.after r p s rx m) y u.1 (place_after u.0 n)) (f ∙ ap (λ (i : ℕ). written k a.number a.ptt (take i y) d n) q)
      ∙ ap (λ (t : Turn). laid k t d n) e
