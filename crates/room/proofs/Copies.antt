-- What callers use of `copied` and `shifted`. Assumes nothing.
use mathlib.Core.Path.{◌≡◌, refl, sym, ap, ◌∙◌}
use mathlib.Core.Bool.{Bool, true, false}
use mathlib.Core.List.{List}
use Prim.Native.Nat.{ℕ, ◌+◌, ◌-◌, ◌≤◌, ◌<◌}
use lib.Dec.{leb}
use native.Mathlib.Nat.{zero-add}
use native.Mathlib.Omega.{arith}
use lib.ListN.{length, take, drop, length-drop, take-append-drop}
use lib.Seq.{sets, sets-eq, paste, length-take-le}
use borrow.Author.Tests.{le-leb, lt-leb}
use Rattle.choice.specs.Pick.{pick, and}
use Rattle.room.specs.Room.{over, copied, shifted, no_room}
use Rattle.std.specs.Prelude.{Ok, Err, Result}
use Rattle.room.specs.declared.NoRoom.{NoRoom}

pub copied-yes : (s d : List ℕ) (at : ℕ) → at + length s ≤ length d → copied s d at ≡ (Ok tt, sets d at s)
unfolding copied pick
copied-yes s d at h = rw (le-leb (at + length s) (length d) h, sets-eq s d at h)

pub copied_no : (s d : List ℕ) (at : ℕ) → length d < at + length s → copied s d at ≡ (Err no_room, d)
unfolding copied pick
copied_no s d at h = rw (lt-leb (at + length s) (length d) h)

-- what `copy_in` left in a room that has the place
pub copied_in : (s d : List ℕ) (at : ℕ) {r : Result (Unit {0}) NoRoom} {e : List ℕ} → (r, e) ≡ copied s d at → at + length s ≤ length d → e ≡ sets d at s
copied_in s d at h fit = ap (λ (p : Result (Unit {0}) NoRoom × List ℕ). p.1) (h ∙ copied-yes s d at fit)

pub shifted-yes : (d : List ℕ) (from to : ℕ) → from ≤ to → to ≤ length d → shifted d from to ≡ (Ok tt, over (take (to - from) (drop from d)) d)
unfolding shifted pick and
shifted-yes d from to h k = rw (le-leb from to h, le-leb to (length d) k)

pub shifted_beyond : (d : List ℕ) (from to : ℕ) → length d < to → shifted d from to ≡ (Err no_room, d)
unfolding shifted pick and
shifted_beyond d from to h = rw (lt-leb to (length d) h) (by (leb from to))
  where
    by : (t : Bool) → pick {A = Result (Unit {0}) NoRoom × List ℕ} (and t false) (Ok tt, over (take (to - from) (drop from d)) d) (Err no_room, d) ≡ (Err no_room, d)
    by true = refl
    by false = refl

pub shifted-turned : (d : List ℕ) (from to : ℕ) → to < from → shifted d from to ≡ (Err no_room, d)
unfolding shifted pick and
shifted-turned d from to h = rw (lt-leb from to h)

-- what `shift` left in a room that has those bytes
pub shifted_in : (d : List ℕ) (from to : ℕ) {r : Result (Unit {0}) NoRoom} {e : List ℕ} → (r, e) ≡ shifted d from to → from ≤ to → to ≤ length d → e ≡ over (take (to - from) (drop from d)) d
shifted_in d from to e h k = ap (λ (p : Result (Unit {0}) NoRoom × List ℕ). p.1) (e ∙ shifted-yes d from to h k)

-- bytes moved down by no place
pub moved_none : (s : List ℕ) (n k : ℕ) → n ≡ 0 → k ≤ length s → s ≡ over (take k (drop n s)) s
moved_none s n k e h = rw (e, length-take-le k s h) (sym (take-append-drop k s))

-- k bytes moved down by n places
pub moved : (s : List ℕ) (n k : ℕ) → k + n ≤ length s → paste s 0 (drop n s) k ≡ over (take k (drop n s)) s
moved s n k h = rw (zero-add k, length-take-le k (drop n s) (omega (arith, length-drop n s)))
