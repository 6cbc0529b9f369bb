-- What one place has left: frame by frame, and in a store that has another room at some place. Assumes nothing.
use Prim.Native.Nat.{ℕ, zero, suc, ◌+◌, ◌-◌, ◌*◌, ◌/◌, ◌≤◌, ◌<◌, min}
use mathlib.Core.Path.{◌≡◌, refl, sym, ap, ◌∙◌}
use mathlib.Core.Logic.{◌≢◌}
use mathlib.Core.Bool.{Bool, true, false}
use mathlib.Core.List.{List, [], ◌∷◌, ◌++◌}
use native.Mathlib.Omega.{arith}
use borrow.Author.Tests.{ltb-true, ltb-false, leb-true, leb-false}
use lib.Dec.{ltb, leb}
use lib.ListN.{length, take, drop, length-drop, length-take, drop_of_length-le}
use lib.Seq.{drop-drop, take-nil}
use Rattle.choice.specs.Pick.{pick, and_fst, and_snd}
use Rattle.room.specs.Room.{placed}
use Rattle.room.proofs.Places.{kept_before, kept_beyond}
use Rattle.protocol.specs.Lsf.{part}
use Rattle.packets.specs.declared.Place.{Place}
use Rattle.packets.specs.Frames.{AirFrame, setup, piece, chunk, data_frames, frames_of}
use Rattle.packets.specs.Queue.{ROOM, DATA, STORE, sound_place, packet_in, stored}
use Rattle.packets.proofs.Chunks.{data_none, data_next}
use Rattle.packets.proofs.Rooms.{part_placed}
use Rattle.packet_rule.specs.Left.{lsf_left, data_left, rest_at}

-- ---- parts of a list

part_length : (s : List ℕ) (m n : ℕ) → m + n ≤ length s → length (part m n s) ≡ n
part_length s m n h = simp (length-take, length-drop) (omega arith)

drop-take : (m n : ℕ) (l : List ℕ) → drop m (take n l) ≡ take (n - m) (drop m l)
drop-take zero n l = ap (λ (k : ℕ). take k l) {x = n} {y = n - 0} (omega arith)
drop-take (suc m) zero l = ap (λ (k : ℕ). take k (drop (suc m) l)) {x = 0} {y = 0 - suc m} (omega arith)
drop-take (suc m) (suc n) [] = sym (take-nil (suc n - suc m))
drop-take (suc m) (suc n) (x ∷ l) = drop-take m n l ∙ ap (λ (k : ℕ). take k (drop m l)) {x = n - m} {y = suc n - suc m} (omega arith)

-- ---- bounds, for `omega`

pub record Within (p : Place) : Type 0 where
  pub sent : p.sent ≤ p.len
  pub len : p.len ≤ DATA

pub within : (p : Place) → sound_place p ≡ true → Within p
unfolding sound_place
within p s = record { sent = leb-true _ _ (and_fst _ _ s); len = leb-true _ _ (and_snd _ _ s) }

-- ---- frame by frame

-- the place with its LSF given, and with n bytes more sent
abbrev pub lsf_given_lem : Place → Place
lsf_given_lem p = record { due = false; len = p.len; sent = p.sent }

abbrev pub sent_on : Place → ℕ → Place
sent_on p n = record { due = p.due; len = p.len; sent = p.sent + n }

no_lsf_lem : (store : List ℕ) (k : ℕ) (p : Place) → p.due ≡ false → rest_at k p store ≡ data_left k p store
unfolding rest_at lsf_left pick
no_lsf_lem store k p e = ap (λ (b : Bool). pick b (setup (part (ROOM * k) 30 store) ∷ []) [] ++ data_left k p store) e

module _ (store : List ℕ) (k : ℕ) (p : Place) where
  pub lsf_first : p.due ≡ true → rest_at k p store ≡ setup (part (ROOM * k) 30 store) ∷ rest_at k (lsf_given_lem p) store
  unfolding rest_at lsf_left data_left pick
  lsf_first e = rw e

  pub spent_has_none : p.due ≡ false → p.sent ≡ p.len → rest_at k p store ≡ []
  unfolding data_left
  spent_has_none e h = let z : p.len - p.sent ≡ 0 = omega arith in no_lsf_lem store k p e ∙ rw z (data_none (p.sent / 25))

  module _ (l : length store ≡ STORE) (below : k < 4) (w : Within p) (some : p.sent ≢ p.len) where
    abbrev unsent : List ℕ
    unsent = part (ROOM * k + 30 + p.sent) (p.len - p.sent) store

    abbrev step : ℕ
    step = min 25 (p.len - p.sent)

    unsent_length : length unsent ≡ p.len - p.sent
    unsent_length = part_length store (ROOM * k + 30 + p.sent) (p.len - p.sent) (omega arith)

    -- what the frame leaves
    behind_it : data_left k (sent_on p step) store ≡ data_frames (suc (p.sent / 25)) (drop 25 unsent)
    unfolding data_left
    behind_it = by (leb (p.len - p.sent) 25) refl
      where
        by : (b : Bool) → leb (p.len - p.sent) 25 ≡ b
            → data_frames ((p.sent + step) / 25) (part (ROOM * k + 30 + (p.sent + step)) (p.len - (p.sent + step)) store) ≡ data_frames (suc (p.sent / 25)) (drop 25 unsent)
        by true e =
            let h : p.len - p.sent ≤ 25 = leb-true _ _ e in
            let z : p.len - (p.sent + step) ≡ 0 = omega arith in
            let y : drop 25 unsent ≡ [] = drop_of_length-le unsent {i = 25} (omega (arith, unsent_length)) in
            rw (z, y, data_none, data_none)
        by false e =
            let h : 25 < p.len - p.sent = leb-false _ _ e in
            let a : step ≡ 25 = omega arith in
            let i : (p.sent + 25) / 25 ≡ suc (p.sent / 25) = omega arith in
            let n : p.len - p.sent - 25 ≡ p.len - (p.sent + 25) = omega arith in
            let m : ROOM * k + 30 + p.sent + 25 ≡ ROOM * k + 30 + (p.sent + 25) = omega arith in
            rw (a, i, drop-take, drop-drop, n, m)

    its_first : data_left k p store ≡ piece (chunk (p.sent / 25) unsent) ∷ data_left k (sent_on p step) store
    unfolding data_left
    its_first = data_next (p.sent / 25) unsent (omega (arith, unsent_length)) ∙ ap (λ (fs : List AirFrame). piece (chunk (p.sent / 25) unsent) ∷ fs) (sym behind_it)

    pub data_first : p.due ≡ false → rest_at k p store ≡ piece (chunk (p.sent / 25) unsent) ∷ rest_at k (sent_on p step) store
    data_first e =
        no_lsf_lem store k p e ∙ its_first ∙ ap (λ (fs : List AirFrame). piece (chunk (p.sent / 25) unsent) ∷ fs) (sym (no_lsf_lem store k (sent_on p step) e))

-- ---- another room at place k

module _ (store : List ℕ) (l : length store ≡ STORE) (k : ℕ) (below : k < 4) (room : List ℕ) (whole : length room ≡ ROOM) where
  fits : ROOM * k + length room ≤ length store
  fits = omega arith

  part_elsewhere : (j m n : ℕ) → j ≢ k → ROOM * j ≤ m → m + n ≤ ROOM * j + ROOM → part m n (stored store k room) ≡ part m n store
  part_elsewhere j m n apart low high = by (ltb j k) refl
    where
      by : (b : Bool) → ltb j k ≡ b → part m n (placed room store (ROOM * k)) ≡ part m n store
      by true e = let h : j < k = ltb-true _ _ e in kept_before room store (ROOM * k) fits m n (omega arith)
      by false e = let h : k ≤ j = ltb-false _ _ e in ap (take n) (kept_beyond room store (ROOM * k) fits m (omega arith))

  -- the other places have left what they had
  pub rest_elsewhere : (j : ℕ) (p : Place) → j ≢ k → Within p → rest_at j p (stored store k room) ≡ rest_at j p store
  unfolding rest_at lsf_left data_left
  rest_elsewhere j p apart w =
      rw (
        part_elsewhere j (ROOM * j) 30 apart (omega arith) (omega arith),
        part_elsewhere j (ROOM * j + 30 + p.sent) (p.len - p.sent) apart (omega arith) (omega arith),
      )

  part_there : (m n : ℕ) → m + n ≤ ROOM → part (ROOM * k + m) n (stored store k room) ≡ part m n room
  part_there m n h = part_placed store room (ROOM * k) fits m n (omega arith)

  -- a packet that has given nothing yet has all its frames left
  pub rest_there : (len : ℕ) → len ≤ DATA → rest_at k (record { due = true; len = len; sent = 0 }) (stored store k room) ≡ frames_of (packet_in room len)
  unfolding rest_at lsf_left data_left frames_of pick
  rest_there len h =
      let a : part (ROOM * k) 30 (stored store k room) ≡ take 30 room =
      ap (λ (m : ℕ). part m 30 (stored store k room)) {x = ROOM * k} {y = ROOM * k + 0} (omega arith) ∙ part_there 0 30 (omega arith) in
      let m : ROOM * k + 30 + 0 ≡ ROOM * k + 30 = omega arith in
      let n : len - 0 ≡ len = omega arith in
      rw (a, m, n, part_there 30 len (omega arith))
