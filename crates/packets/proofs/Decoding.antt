-- What decoding says of any room. Assumes nothing.
use Prim.Native.Nat.{ℕ, ◌≤◌}
use mathlib.Core.Path.{◌≡◌, refl}
use mathlib.Core.List.{List, [], ◌∷◌}
use mathlib.Core.Option.{Option, none, some}
use native.Mathlib.Omega.{arith}
use lib.ListN.{length}
use Rattle.kiss_layout.proofs.Escaping.{unescape_stays_in_room}
use Rattle.kiss_layout.specs.Scan.{stretch, after_fends}
use Rattle.kiss_layout.specs.Read.{content_in, payload_at, decoded}
use Rattle.packets.specs.Inside.{count_of}

-- the room keeps its length, and the count stays within it
pub in_room : (f d : List ℕ) → (length (decoded f d).1 ≡ length d) × (count_of (decoded f d).0 ≤ length d)
unfolding decoded
in_room f d = by (after_fends f)
  where
    content : (o : Option (List ℕ)) → (length (content_in o d).1 ≡ length d) × (count_of (content_in o d).0 ≤ length d)
    content none = (refl, omega arith)
    content (some c) = unescape_stays_in_room c d

    by : (l : List ℕ) → (length (payload_at l d).1 ≡ length d) × (count_of (payload_at l d).0 ≤ length d)
    by [] = (refl, omega arith)
    by (h ∷ s) = content (stretch s)
