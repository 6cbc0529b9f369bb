-- Runs of stores that stay within a part of a store, and the room of a port 0 packet. Assumes nothing.
use Prim.Native.Nat.{ℕ, suc, ◌+◌, ◌-◌, ◌≤◌}
use mathlib.Core.Path.{◌≡◌, refl, sym, ap, ◌∙◌}
use mathlib.Core.List.{List, [], ◌∷◌, ◌++◌, append_assoc, append-nil}
use native.Mathlib.Omega.{arith}
use lib.ListN.{length, take, drop, set, replicate, length-set, length-append, length-take, length-drop}
use lib.Seq.{sets, sets-eq, length-sets, length-take-le, set-append_left, drop_at, drop-drop}
use borrow.Rule.Slice.PartMut.{mid_of, put_mid}
use Rattle.std.specs.Prelude.{Result, ℕ}
use Rattle.std.specs.Result.{result_unwrap_or}
use Rattle.kiss_layout.specs.declared.KissError.{KissError}
use Rattle.room.specs.Room.{placed}
use Rattle.room.proofs.Parts.{lent_placed}
use Rattle.room.proofs.Places.{placed-length}
use Rattle.room.proofs.Runs.{sets_append, put_all, put_front}
use Rattle.crc.specs.Crc.{crc_of, two_bytes}
use Rattle.protocol.specs.Lsf.{part}
use Rattle.protocol.specs.Basic.{basic_lsf}
use Rattle.kiss_layout.specs.Read.{decoded}
use Rattle.packets.specs.Frames.{zeros}
use Rattle.packets.specs.Queue.{ROOM, RAW, basic_room}
use Rattle.packets.specs.Inside.{count_of}
use Rattle.packet_basic.specs.Inside.{decoded_at, sealed_at}
use Rattle.packet_basic.proofs.Payloads.{count_is}
use Rattle.packets.proofs.Decoding.{in_room}
use Rattle.packets.proofs.Rooms.{start, apart, part_placed, length-zeros, basic_lsf_length}

sets_cons : (x : ℕ) (d : List ℕ) (k : ℕ) (ys : List ℕ) → sets (x ∷ d) (suc k) ys ≡ x ∷ sets d k ys
sets_cons x d k [] = refl
sets_cons x d k (y ∷ ys) = sets_cons x (set d k y) (suc k) ys

-- stores behind a run of bytes
pub sets_behind : (a d : List ℕ) (k : ℕ) (ys : List ℕ) → sets (a ++ d) (length a + k) ys ≡ a ++ sets d k ys
sets_behind [] d k ys = ap (λ (m : ℕ). sets d m ys) {x = 0 + k} {y = k} (omega arith)
sets_behind (x ∷ a) d k ys =
    ap (λ (m : ℕ). sets (x ∷ (a ++ d)) m ys) {x = suc (length a) + k} {y = suc (length a + k)} (omega arith)
    ∙ sets_cons x (a ++ d) (length a + k) ys
    ∙ ap (λ (l : List ℕ). x ∷ l) (sets_behind a d k ys)

-- stores before a run of bytes
sets_before : (a d : List ℕ) (k : ℕ) (ys : List ℕ) → k + length ys ≤ length a → sets (a ++ d) k ys ≡ sets a k ys ++ d
sets_before a d k [] h = refl
sets_before a d k (y ∷ ys) h =
    ap (λ (l : List ℕ). sets l (suc k) ys) (set-append_left a d k y (omega arith))
    ∙ sets_before (set a k y) d (suc k) ys (omega (arith, length-set a k y))

-- stores within the bytes r that were placed at `at`
module _ (s r : List ℕ) (at : ℕ) (fits : at + length r ≤ length s) where
  pub sets-placed : (k : ℕ) (ys : List ℕ) → k + length ys ≤ length r → sets (placed r s at) (at + k) ys ≡ placed (sets r k ys) s at
  sets-placed k ys h =
      let n : length (sets r k ys) ≡ length r = length-sets r k ys in
      ap (λ (l : List ℕ). sets l (at + k) ys) (apart s r at fits)
      ∙ ap (λ (m : ℕ). sets (take at s ++ (r ++ drop (at + length r) s)) (m + k) ys) (sym (start s r at fits))
      ∙ sets_behind (take at s) (r ++ drop (at + length r) s) k ys
      ∙ ap (λ (l : List ℕ). take at s ++ l) (sets_before r (drop (at + length r) s) k ys h)
      ∙ sym (append_assoc (take at s) (sets r k ys) (drop (at + length r) s))
      ∙ ap (λ (m : ℕ). take at s ++ sets r k ys ++ drop (at + m) s) (sym n)

  -- bytes in their stead
  pub replaced : (t : List ℕ) → length t ≡ length r → sets (placed r s at) at t ≡ placed t s at
  replaced t e =
      ap (λ (m : ℕ). sets (placed r s at) m t) {x = at} {y = at + 0} (omega arith) ∙ sets-placed 0 t (omega arith) ∙ ap (λ (l : List ℕ). placed l s at) (put_all r t e)

-- a lent part that comes back as long as it was
pub lent_all : (a k : ℕ) (d v : List ℕ) → a + k ≤ length d → length v ≡ k → put_mid a k d v ≡ sets d a v
lent_all a k d v h e =
    ap (λ (m : ℕ). take a d ++ (v ++ drop m (drop a d))) (sym e)
    ∙ ap (λ (l : List ℕ). take a d ++ (v ++ l)) (drop-drop (length v) a d)
    ∙ sym (append_assoc (take a d) v (drop (a + length v) d))
    ∙ sym (sets-eq v d a (omega arith))

-- ---- the room of a port 0 packet

-- a room of the store, cleared and decoded into behind its first 31 bytes
module _ (s : List ℕ) (at : ℕ) (fits : at + ROOM ≤ length s) where
  room_long : length (mid_of at (at + ROOM - at) s) ≡ ROOM
  room_long = simp (length-take, length-drop) (omega arith)

  module _ {z : List ℕ} (c : z ≡ replicate (length (mid_of at (at + ROOM - at) s)) 0) where
    cleared : z ≡ replicate ROOM 0
    cleared = c ∙ ap (λ (m : ℕ). replicate m 0) room_long

    lent : mid_of 31 (length z - 31) z ≡ zeros 824
    unfolding zeros
    lent = ap (λ (l : List ℕ). mid_of 31 (length l - 31) l) cleared

    back : (v : List ℕ) → put_mid 31 (length z - 31) z v ≡ zeros 31 ++ v
    unfolding zeros
    back v = ap (λ (l : List ℕ). put_mid 31 (length l - 31) l v) cleared ∙ ap (λ (l : List ℕ). replicate 31 0 ++ l) (append-nil v)

    pub decoded-at : (f : List ℕ) {n : ℕ} {x : Result ℕ KissError} {v : List ℕ} → (x, v) ≡ decoded f (mid_of 31 (length z - 31) z) → n ≡ result_unwrap_or x 0
        → (n, put_mid at (at + ROOM - at) s (put_mid 31 (length z - 31) z v)) ≡ decoded_at f s at
    unfolding decoded_at
    decoded-at f {n} {x} {v} p e =
        let q = p ∙ ap (decoded f) lent in
        let l : length v ≡ 824 = ap (λ (y : Result ℕ KissError × List ℕ). length y.1) q ∙ (in_room f (zeros 824)).0 ∙ length-zeros 824 in
        let k : length (zeros 31 ++ v) ≡ at + ROOM - at = omega (arith, length-append (zeros 31) v, length-zeros 31, l) in
        (λ t. ((e ∙ count_is x) t, (ap (put_mid at (at + ROOM - at) s) (back v) ∙ lent_placed at (at + ROOM - at) s (zeros 31 ++ v) k) t))
        ∙ ap (λ (y : Result ℕ KissError × List ℕ). (count_of y.0, placed (zeros 31 ++ y.1) s at)) q

-- the LSF and the type byte
abbrev headed : List ℕ
headed = basic_lsf ++ (RAW ∷ [])

headed_length : length headed ≡ 31
headed_length = length-append basic_lsf (RAW ∷ []) ∙ ap (λ (m : ℕ). m + 1) basic_lsf_length

-- what stands from the type byte on once they are written
from_type : (s : List ℕ) (at : ℕ) → at + ROOM ≤ length s → drop (at + 30) (sets s at headed) ≡ RAW ∷ drop (at + 31) s
from_type s at h =
    let t : List ℕ = take at s in
    let n : length (t ++ basic_lsf) ≡ at + 30 = omega (arith, length-append t basic_lsf, length-take-le at s (omega arith), basic_lsf_length) in
    ap (drop (at + 30))
    (sets-eq headed s at (omega (arith, headed_length))
    ∙ ap (λ (x : List ℕ). x ++ drop (at + length headed) s) (sym (append_assoc t basic_lsf (RAW ∷ [])))
    ∙ append_assoc (t ++ basic_lsf) (RAW ∷ []) (drop (at + length headed) s))
    ∙ drop_at (t ++ basic_lsf) (RAW ∷ drop (at + length headed) s) (at + 30) n
    ∙ ap (λ (m : ℕ). RAW ∷ drop (at + m) s) headed_length

-- the LSF, the type byte and the CRC are written around the payload
pub sealed-at : (s : List ℕ) (at n : ℕ) → at + ROOM ≤ length s → n ≤ 822 → {l c : List ℕ} {x : ℕ} → l ≡ basic_lsf
    → x ≡ crc_of (part (at + 30) (at + 30 + 1 + n - (at + 30)) (set (put_mid at (at + 30 - at) s l) (at + 30) RAW)) → c ≡ two_bytes x
    → put_mid (at + 30 + 1 + n) (at + 30 + 1 + n + 2 - (at + 30 + 1 + n)) (set (put_mid at (at + 30 - at) s l) (at + 30) RAW) c ≡ sealed_at s at n
unfolding sealed_at
sealed-at s at n h k {l} {c} {x} e g w =
    let front : put_mid at (at + 30 - at) s l ≡ sets s at basic_lsf =
    lent_all at (at + 30 - at) s l (omega arith) (ap length e ∙ basic_lsf_length ∙ omega arith) ∙ ap (sets s at) e in
    let typed : set (put_mid at (at + 30 - at) s l) (at + 30) RAW ≡ sets s at headed =
    ap (λ (y : List ℕ). set y (at + 30) RAW) front ∙ ap (λ (m : ℕ). set (sets s at basic_lsf) (at + m) RAW) (sym basic_lsf_length) ∙ sym (sets_append s at basic_lsf (RAW ∷ [])) in
    let covered : part (at + 30) (at + 30 + 1 + n - (at + 30)) (set (put_mid at (at + 30 - at) s l) (at + 30) RAW) ≡ RAW ∷ part (at + 31) n s =
    ap (λ (m : ℕ). part (at + 30) m (set (put_mid at (at + 30 - at) s l) (at + 30) RAW)) {x = at + 30 + 1 + n - (at + 30)} {y = suc n} (omega arith)
    ∙ ap (take (suc n)) (ap (drop (at + 30)) typed ∙ from_type s at h) in
    let two : length c ≡ at + 30 + 1 + n + 2 - (at + 30 + 1 + n) = ap length w ∙ omega arith in
    ap (λ (b : List ℕ). put_mid (at + 30 + 1 + n) (at + 30 + 1 + n + 2 - (at + 30 + 1 + n)) b c) typed
    ∙ lent_all (at + 30 + 1 + n) (at + 30 + 1 + n + 2 - (at + 30 + 1 + n)) (sets s at headed) c (omega (arith, length-sets s at headed)) two
    ∙ ap (λ (m : ℕ). sets (sets s at headed) m c) {x = at + 30 + 1 + n} {y = at + 31 + n} (omega arith)
    ∙ ap (sets (sets s at headed) (at + 31 + n)) (w ∙ ap two_bytes (g ∙ ap crc_of covered))

-- and with that the room is a port 0 packet's
pub sealed_room : (s d : List ℕ) (at n : ℕ) → at + ROOM ≤ length s → length d ≡ 824 → n ≤ 822 → sealed_at (placed (zeros 31 ++ d) s at) at n ≡ placed (basic_room n d) s at
unfolding sealed_at basic_room
sealed_room s d at n h e k =
    let r : List ℕ = zeros 31 ++ d in
    let l : length r ≡ ROOM = omega (arith, length-append (zeros 31) d, length-zeros 31) in
    let m : length (headed ++ d) ≡ ROOM = omega (arith, length-append headed d, headed_length) in
    let c : List ℕ = two_bytes (crc_of (RAW ∷ take n d)) in
    let payload : part (at + 31) n (placed r s at) ≡ take n d = part_placed s r at (omega arith) 31 n (omega arith) ∙ ap (take n) (drop_at (zeros 31) d 31 (length-zeros 31)) in
    let head : sets r 0 headed ≡ headed ++ d =
    put_front r headed (omega (arith, headed_length)) ∙ ap (λ (x : List ℕ). headed ++ x) (drop_at (zeros 31) d (length headed) (length-zeros 31 ∙ sym headed_length)) in
    let tail : sets (headed ++ d) (31 + n) c ≡ basic_lsf ++ (RAW ∷ placed c d n) =
    ap (λ (j : ℕ). sets (headed ++ d) (j + n) c) (sym headed_length) ∙ sets_behind headed d n c ∙ ap (λ (x : List ℕ). headed ++ x) (sets-eq c d n (omega arith))
    ∙ append_assoc basic_lsf (RAW ∷ []) (placed c d n) in
    ap (λ (x : List ℕ). sets (sets (placed r s at) at headed) (at + 31 + n) (two_bytes (crc_of (RAW ∷ x)))) payload
    ∙ ap (λ (x : List ℕ). sets x (at + 31 + n) c)
    (ap (λ (j : ℕ). sets (placed r s at) j headed) {x = at} {y = at + 0} (omega arith) ∙ sets-placed s r at (omega arith) 0 headed (omega (arith, headed_length)) ∙ ap (λ (x : List ℕ). placed x s at) head)
    ∙ ap (λ (j : ℕ). sets (placed (headed ++ d) s at) j c) {x = at + 31 + n} {y = at + (31 + n)} (omega arith)
    ∙ sets-placed s (headed ++ d) at (omega arith) (31 + n) c (omega arith)
    ∙ ap (λ (x : List ℕ). placed x s at) tail

-- ---- what the inner functions left, one after the other

module _ (f s : List ℕ) (at : ℕ) {n : ℕ} {s₁ : List ℕ} (e : (n, s₁) ≡ decoded_at f s at) where
  pub decoded-count : n ≡ count_of (decoded f (zeros 824)).0
  unfolding decoded_at
  decoded-count = ap (λ (p : ℕ × List ℕ). p.0) e

  decoded-left : s₁ ≡ placed (zeros 31 ++ (decoded f (zeros 824)).1) s at
  unfolding decoded_at
  decoded-left = ap (λ (p : ℕ × List ℕ). p.1) e

  decoded_long : length (decoded f (zeros 824)).1 ≡ 824
  decoded_long = (in_room f (zeros 824)).0 ∙ length-zeros 824

  module _ (fits : at + ROOM ≤ length s) where
    long : length (zeros 31 ++ (decoded f (zeros 824)).1) ≡ ROOM
    long = omega (arith, length-append (zeros 31) (decoded f (zeros 824)).1, length-zeros 31, decoded_long)

    pub decoded-keeps : length s₁ ≡ length s
    decoded-keeps = ap length decoded-left ∙ placed-length (zeros 31 ++ (decoded f (zeros 824)).1) s at (omega (arith, long))

    -- too long: cleared again
    pub cleared_again : {z : List ℕ} → z ≡ replicate (length (mid_of at (at + ROOM - at) s₁)) 0 → put_mid at (at + ROOM - at) s₁ z ≡ placed (zeros ROOM) s at
    unfolding zeros
    cleared_again {z} c =
        let r = zeros 31 ++ (decoded f (zeros 824)).1 in
        let w : length (zeros ROOM) ≡ ROOM = length-zeros ROOM in
        let g : at + ROOM ≤ length s₁ = omega (arith, decoded-keeps) in
        ap (put_mid at (at + ROOM - at) s₁) (cleared s₁ at g c)
        ∙ lent_all at (at + ROOM - at) s₁ (zeros ROOM) (omega arith) (w ∙ omega arith)
        ∙ ap (λ (x : List ℕ). sets x at (zeros ROOM)) decoded-left
        ∙ replaced s r at (omega (arith, long)) (zeros ROOM) (w ∙ sym long)

    -- sealed
    pub sealed-after : n ≤ 822 → {s₂ : List ℕ} → s₂ ≡ sealed_at s₁ at n → s₂ ≡ placed (basic_room n (decoded f (zeros 824)).1) s at
    sealed-after k p = p ∙ ap (λ (x : List ℕ). sealed_at x at n) decoded-left ∙ sealed_room s (decoded f (zeros 824)).1 at n fits decoded_long k
