-- The promises of escaping are kept. Assumes nothing.
use Prim.Native.Nat.{ℕ, zero, suc, ◌<◌}
use native.Mathlib.Nat.{le_of_suc-le-suc, not-suc-le-zero}
use native.Mathlib.Omega.{arith}
use mathlib.Core.Logic.{◌≢◌}
use mathlib.Core.List.{List, [], ◌∷◌, ◌++◌}
use lib.ListN.{length, get_or}
use Rattle.kiss_layout.specs.Escape.{FEND, FESC, TFEND, TFESC, esc_byte, esc}
use Rattle.kiss_layout.specs.Promises.{EscapeRoundTrip, EscapedHasNoFend, EscapedAtMostTwice, UnescapeStaysInRoom}
use Rattle.kiss_layout.proofs.Bytes.{Kind, fend, fesc, other, kind}
use Rattle.kiss_layout.proofs.Escapes.{esc_byte-fend, esc_byte-fesc, esc_byte-other, esc-length}
use Rattle.kiss_layout.proofs.Unescaped.{round_trip, room_length, count_in_room}

pub escape_round_trip : EscapeRoundTrip
escape_round_trip = round_trip

pub escaped_at_most_twice : EscapedAtMostTwice
escaped_at_most_twice = esc-length

pub unescape_stays_in_room : UnescapeStaysInRoom
unescape_stays_in_room content room = (room_length content room, count_in_room content room)

-- ---- no FEND

abbrev NoFend : List ℕ → Type 0
NoFend s = (i : ℕ) → i < length s → get_or s i 0 ≢ FEND

before : (b : ℕ) (s : List ℕ) → b ≢ FEND → NoFend s → NoFend (b ∷ s)
before b s f g zero h = f
before b s f g (suc i) h = g i (le_of_suc-le-suc h)

none : NoFend []
none i h = absurd (not-suc-le-zero h)

esc_byte-clear : (b : ℕ) (s : List ℕ) → Kind b → NoFend s → NoFend (esc_byte b ++ s)
esc_byte-clear b s (fend e) g = rw (esc_byte-fend b e) (before FESC (TFEND ∷ s) (omega arith) (before TFEND s (omega arith) g))
esc_byte-clear b s (fesc e) g = rw (esc_byte-fesc b e) (before FESC (TFESC ∷ s) (omega arith) (before TFESC s (omega arith) g))
esc_byte-clear b s (other f k) g = rw (esc_byte-other b f k) (before b s f g)

pub escaped_has_no_fend : EscapedHasNoFend
unfolding esc
escaped_has_no_fend [] = none
escaped_has_no_fend (b ∷ s) = esc_byte-clear b (esc s) (kind b) (escaped_has_no_fend s)
