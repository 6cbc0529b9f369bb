-- The tests of a ring as the code asks them, and as the definitions do. Assumes nothing.
use mathlib.Core.Bool.{Bool, true, false, not, ◌&&◌, ◌||◌}
use mathlib.Core.Path.{◌≡◌, refl}
use Rattle.choice.specs.Pick.{pick, and}

pub empty_is : (full equal : Bool) → (not full && equal) ≡ pick full false equal
unfolding pick
empty_is true equal = refl
empty_is false equal = refl

pub sound_is : (next curr full equal : Bool) → ((next && curr) && (not full || equal)) ≡ and next (and curr (pick full equal true))
unfolding and pick
sound_is true true true equal = refl
sound_is true true false equal = refl
sound_is true false full equal = refl
sound_is false curr full equal = refl
