-- The promises are kept. Assumes nothing.
use Prim.Native.Nat.{ℕ, ◌+◌, ◌-◌, ◌≤◌, ◌<◌}
use mathlib.Core.Bool.{Bool, true, false}
use mathlib.Core.Path.{◌≡◌, refl}
use native.Mathlib.Omega.{arith}
use borrow.Author.Tests.{ltb-true, leb-true}
use lib.Dec.{ltb, leb}
use lib.ListN.{length, get_or}
use Rattle.choice.specs.Pick.{pick}
use Rattle.event_input.specs.declared.Next.TheVariants.{Complete, Cut, Unknown, End}
use Rattle.event_input.specs.Events.{known, body_len, next_at}
use Rattle.event_input.specs.Promises.{Whole, CompleteIsWhole}

pub complete_is_whole : CompleteIsWhole
unfolding next_at pick
complete_is_whole s i k a e = by (ltb i (length s)) refl (known (get_or s i 0)) refl (leb (body_len (get_or s i 0)) (length s - (i + 1))) refl
  where
    by : (x : Bool) → ltb i (length s) ≡ x → (y : Bool) → known (get_or s i 0) ≡ y → (z : Bool) → leb (body_len (get_or s i 0)) (length s - (i + 1)) ≡ z
        → pick x (pick y (pick z (Complete (get_or s i 0) (i + 1) (i + 1 + body_len (get_or s i 0))) (Cut (get_or s i 0))) (Unknown (get_or s i 0))) End ≡ Complete k a e → Whole s i k a e
    by true ex true ey true ez q =
        let h : i < length s = ltb-true _ _ ex in
        let l : body_len (get_or s i 0) ≤ length s - (i + 1) = leb-true _ _ ez in
        let et : e ≡ i + 1 + body_len (get_or s i 0) = cc in
        record { inside = h; kind_is = cc; starts = cc; ends = et; within = omega arith; is_known = ey }
    by true ex true ey false ez q = let z : ◌≡◌ {A = ℕ} 0 1 = cc in absurd (omega arith)
    by true ex false ey z ez q = let z : ◌≡◌ {A = ℕ} 0 1 = cc in absurd (omega arith)
    by false ex y ey z ez q = let z : ◌≡◌ {A = ℕ} 0 1 = cc in absurd (omega arith)
