-- What callers use of `unescaped`: the round trip, and that the room keeps its length and the count stays within it. Assumes nothing.
use mathlib.Core.Path.{◌≡◌, refl, ap}
use mathlib.Core.List.{List, [], ◌∷◌, ◌++◌, map}
use Prim.Native.Nat.{ℕ, suc, min, ◌≤◌}
use native.Mathlib.Nat.{le_of_suc-le-suc, not-suc-le-zero}
use native.Mathlib.Omega.{arith}
use lib.ListN.{length, length-map}
use Rattle.room.specs.Room.{over}
use Rattle.kiss_layout.specs.Escape.{FESC, TFEND, TFESC, esc_byte, esc}
use Rattle.kiss_layout.specs.Unescape.{Code, byte, after_fesc, codes, lay, unescaped}
use Rattle.choice.specs.Pick.{pick}
use Rattle.kiss_layout.proofs.Bytes.{Kind, fend, fesc, other, kind}
use Rattle.kiss_layout.proofs.Escapes.{esc_byte-fend, esc_byte-fesc, esc_byte-other}
use Rattle.kiss_layout.proofs.Codes.{codes_byte, codes_pair}

codes-esc_byte : (b : ℕ) (t : List ℕ) → Kind b → codes (esc_byte b ++ t) ≡ byte b ∷ codes t
unfolding after_fesc pick
codes-esc_byte b t (fend e) = rw (esc_byte-fend b e, codes_pair FESC TFEND t refl, e)
codes-esc_byte b t (fesc e) = rw (esc_byte-fesc b e, codes_pair FESC TFESC t refl, e)
codes-esc_byte b t (other f g) = rw (esc_byte-other b f g, codes_byte b t g)

codes-esc : (s : List ℕ) → codes (esc s) ≡ map byte s
unfolding esc codes
codes-esc [] = refl
codes-esc (b ∷ s) = rw (codes-esc_byte b (esc s) (kind b), codes-esc s)

lay_bytes : (s d : List ℕ) → length s ≤ length d → lay (map byte s) d ≡ over s d
unfolding lay
lay_bytes [] d h = refl
lay_bytes (b ∷ s) [] h = absurd (not-suc-le-zero h)
lay_bytes (b ∷ s) (r ∷ d) h = rw (lay_bytes s d (le_of_suc-le-suc h))

pub round_trip : (s d : List ℕ) → length s ≤ length d → unescaped (esc s) d ≡ (length s, over s d)
unfolding unescaped
round_trip s d h =
    let n : min (length (codes (esc s))) (length d) ≡ length s = rw (codes-esc s, length-map s byte) (omega arith) in
    let r : lay (codes (esc s)) d ≡ over s d = rw (codes-esc s) (lay_bytes s d h) in
    λ t. (n t, r t)

lay-length : (cs : List Code) (d : List ℕ) → length (lay cs d) ≡ length d
unfolding lay
lay-length [] d = refl
lay-length (c ∷ cs) [] = refl
lay-length (c ∷ cs) (r ∷ d) = ap suc (lay-length cs d)

pub room_length : (s d : List ℕ) → length (unescaped s d).1 ≡ length d
unfolding unescaped
room_length s d = lay-length (codes s) d

pub count_in_room : (s d : List ℕ) → (unescaped s d).0 ≤ length d
unfolding unescaped
count_in_room s d = omega arith
