-- The assembly by what `valid_segments` answered. Assumes nothing.
use mathlib.Core.Path.{◌≡◌, refl, ap, ◌∙◌}
use mathlib.Core.Bool.{Bool, true, false}
use mathlib.Core.List.{List}
use lib.Dec.{leb, eqb}
use Rattle.std.specs.Prelude.{Result, ℕ, Err, Ok, Option, Some, None}
use Rattle.std.specs.Bool.{then_some}
use Rattle.choice.specs.Pick.{pick}
use Rattle.lich.specs.declared.LichCollection.{LichCollection}
use Rattle.lich.specs.declared.LichError.{LichError}
use Rattle.lich.specs.declared.LichError.TheVariants.{OutOfBounds}
use Rattle.lich.specs.Lich.{heard_count, valid_segments, assembled}

abbrev pub by_count : Result ℕ LichError → List ℕ → Result (Option (List ℕ)) LichError
by_count (Err e) s = Err e
by_count (Ok n) s = Ok (then_some (eqb n 6) s)

pub by_count_lem : (c : LichCollection) (v : Result ℕ LichError) → v ≡ valid_segments c → by_count v c.segments ≡ assembled c
unfolding valid_segments assembled pick
by_count_lem c v e = ap (λ (x : Result ℕ LichError). by_count x c.segments) e ∙ go (leb 64 c.mask) (eqb (heard_count c.mask) 6) refl
  where
    go : (t six : Bool) → eqb (heard_count c.mask) 6 ≡ six → by_count (pick {A = Result ℕ LichError} t (Err OutOfBounds) (Ok (heard_count c.mask))) c.segments
        ≡ pick {A = Result (Option (List ℕ)) LichError} t (Err OutOfBounds) (pick {A = Result (Option (List ℕ)) LichError} (eqb (heard_count c.mask) 6) (Ok (Some c.segments)) (Ok None))
    go true six e = refl
    go false true e = rw e
    go false false e = rw e
