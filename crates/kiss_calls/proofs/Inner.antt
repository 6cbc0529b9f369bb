-- What the reader's inner functions find and leave. Assumes nothing.
use mathlib.Core.Path.{◌≡◌, refl, sym, ap, ◌∙◌}
use mathlib.Core.Bool.{Bool, true, false}
use mathlib.Core.List.{List, [], ◌∷◌, ◌++◌}
use Prim.Native.Nat.{ℕ, zero, suc, ◌+◌, ◌-◌, ◌≤◌}
use native.Mathlib.Nat.{sub-zero, zero-sub, suc-sub-suc}
use native.Mathlib.Omega.{arith}
use lib.Dec.{ltb}
use lib.ListN.{length, take, drop, get_or, length-append, length-drop, length-take}
use lib.Seq.{take-nil, take-length, drop-drop}
use borrow.Rule.Slice.PartMut.{put_mid}
use Rattle.std.proofs.lemmas.Slice.{put_mid-paste}
use borrow.Author.Tests.{ltb-true, ltb-false}
use Rattle.room.specs.Room.{over}
use Rattle.kiss_layout.specs.Escape.{FEND}
use Rattle.kiss_layout.specs.Scan.{not_fend, run_of}
use Rattle.kiss_reader.specs.Reader.{settle, front}
use Rattle.kiss_reader.specs.Inside.{settle_at}
use Rattle.kiss_reader.proofs.Indices.{settle-at, settle_within, front-found, front-none}
use Rattle.kiss_reader.specs.Front.{or_empty}
use Rattle.kiss_reader.proofs.Fronts.{front_length_found, front_length_none}
use Rattle.kiss_calls.specs.Inside.{compacted}

-- ---- compact

drop-take : (m n : ℕ) (l : List ℕ) → drop m (take n l) ≡ take (n - m) (drop m l)
drop-take zero n l = rw sub-zero
drop-take (suc m) n [] = rw (take-nil n, take-nil (n - suc m))
drop-take (suc m) zero (x ∷ l) = rw zero-sub
drop-take (suc m) (suc n) (x ∷ l) = rw suc-sub-suc (drop-take m n l)

-- the held bytes from `from` on are the part that is settled
pub held_part : (from filled : ℕ) (store : List ℕ) → take (filled - from) (drop from store) ≡ drop from (take filled store)
held_part from filled store = sym (drop-take from filled store)

-- the settled bytes as a part of the store
pub settled_part : (from filled n : ℕ) (store : List ℕ) → from ≤ filled → filled ≤ length store → n ≡ settle_at (take (filled - from) (drop from store))
    → take (filled - (from + n)) (drop (from + n) store) ≡ settle (drop from (take filled store))
settled_part from filled n store h k e =
    let p = held_part from filled store in
    held_part (from + n) filled store
    ∙ sym (drop-drop n from (take filled store))
    ∙ ap (λ (m : ℕ). drop m (drop from (take filled store))) (e ∙ ap settle_at p)
    ∙ sym (settle-at (drop from (take filled store)))

pub settled_within : (from filled n : ℕ) (store : List ℕ) → from ≤ filled → filled ≤ length store → n ≡ settle_at (take (filled - from) (drop from store)) → from + n ≤ filled
settled_within from filled n store h k e =
    omega (arith, settle_within (take (filled - from) (drop from store)), length-take (filled - from) (drop from store), length-drop from store)

-- what is left once they were moved to the store's start, and how many they are
pub compacted-by : (from filled n : ℕ) (store : List ℕ) {d : List ℕ} → from ≤ filled → filled ≤ length store → n ≡ settle_at (take (filled - from) (drop from store))
    → d ≡ over (take (filled - (from + n)) (drop (from + n) store)) store → (filled - (from + n), d) ≡ compacted from filled store
unfolding compacted
compacted-by from filled n store h k e q =
    let w = settled_within from filled n store h k e in
    let p = settled_part from filled n store h k e in
    let m : filled - (from + n) ≡ length (settle (drop from (take filled store))) =
    omega (arith, ap length p, length-take (filled - (from + n)) (drop (from + n) store), length-drop (from + n) store, w, k) in
    let o = q ∙ ap (λ (l : List ℕ). over l store) p in
    λ t. (m t, o t)

-- ---- accept

-- m bytes written behind the first k of a room
pub behind-kept : (d s v : List ℕ) (k m : ℕ) → v ≡ s → length s ≡ m → k + length s ≤ length d → put_mid k m d v ≡ over (take k d ++ s) d
behind-kept d s v k m e l h =
    let n : length (take k d ++ s) ≡ k + length s = omega (arith, length-append (take k d) s, length-take k d) in
    put_mid-paste k m d v s (length s) e l refl ∙ rw (take-length s) (ap (λ (j : ℕ). take k d ++ s ++ drop j d) (sym n))

-- ---- frame

pub front_within : (h : List ℕ) → length (or_empty (front h)) ≤ length h
front_within h = by (ltb (run_of not_fend (drop 1 h)) (length (drop 1 h))) refl
  where
    by : (t : Bool) → ltb (run_of not_fend (drop 1 h)) (length (drop 1 h)) ≡ t → length (or_empty (front h)) ≤ length h
    by true e = let l = ltb-true (run_of not_fend (drop 1 h)) (length (drop 1 h)) e in omega (arith, front_length_found h l, length-drop 1 h)
    by false e = omega (arith, front_length_none h (ltb-false (run_of not_fend (drop 1 h)) (length (drop 1 h)) e))

-- the frame at the front is the bytes themselves
pub front-part : (h : List ℕ) → get_or h 0 0 ≡ FEND → take (length (or_empty (front h))) h ≡ or_empty (front h)
front-part h b = by (ltb (run_of not_fend (drop 1 h)) (length (drop 1 h))) refl
  where
    by : (t : Bool) → ltb (run_of not_fend (drop 1 h)) (length (drop 1 h)) ≡ t → take (length (or_empty (front h))) h ≡ or_empty (front h)
    by true e =
        let l = ltb-true (run_of not_fend (drop 1 h)) (length (drop 1 h)) e in
        ap (λ (n : ℕ). take n h) (front_length_found h l) ∙ sym (ap or_empty (front-found h b l))
    by false e = rw (front-none h (ltb-false (run_of not_fend (drop 1 h)) (length (drop 1 h)) e))
