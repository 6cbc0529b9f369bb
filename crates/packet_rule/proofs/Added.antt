-- A push adds the frames of the packet that it accepts behind what is left, and every call leaves four places. Assumes nothing.
use Prim.Native.Nat.{ℕ, zero, suc, ◌+◌, ◌%◌, ◌≤◌, ◌<◌}
use mathlib.Core.Path.{◌≡◌, sym, ap, ◌∙◌}
use mathlib.Core.Logic.{◌≢◌}
use mathlib.Core.Bool.{true, false}
use mathlib.Core.List.{List, [], ◌++◌, append-nil}
use native.Mathlib.Omega.{arith}
use lib.ListN.{length, get_or, set, length-set}
use lib.Seq.{get_or-set_same, get_or-set_other}
use Rattle.choice.specs.Pick.{pick_all}
use Rattle.packets.specs.declared.Place.{Place}
use Rattle.packets.specs.declared.PacketQueue.{PacketQueue}
use Rattle.packets.specs.declared.Pushed.{Pushed}
use Rattle.packets.specs.declared.PacketRead.{PacketRead}
use Rattle.packets.specs.Frames.{AirFrame, zeros, frames_of, joined}
use Rattle.packets.specs.Queue.{ROOM, DATA, no_packet, Made, malformed, unfit, overlong, fills, packet_in, with_packet, stored, obeyed, pushing, with_place, advanced, lsf_read, data_read, turn, walk, read_next}
use Rattle.packets.specs.Promises.{Sound}
use Rattle.packets.proofs.Bounds.{Here, at_here, place_at, places}
use Rattle.packets.proofs.Kept.{Fits, fits_fills}
use Rattle.packets.proofs.Rooms.{length-zeros}
use Rattle.packet_rule.specs.Left.{rest_at, waiting, in_turn, rest_in, left_of}
use Rattle.packet_rule.specs.Promises.{Four, Adds}
use Rattle.packet_rule.proofs.Ring.{turn-same, turn_last, one_more, next-behind, next_apart}
use Rattle.packet_rule.proofs.Rests.{within, rest_elsewhere, rest_there}

-- ---- a room at `next`, which no waiting packet has

module _ (q : PacketQueue) (store : List ℕ) (h : Sound q store) (free : q.full ≡ false) where
  abbrev here_is : Here q
  here_is = at_here q h.its_state

  -- how many wait, and the place of the j-th of them
  abbrev count : ℕ
  count = waiting false q.next q.curr

  abbrev place : ℕ → ℕ
  place j = (q.curr + j) % 4

  apart : (j : ℕ) → j < count → place j ≢ q.next
  apart j l = next_apart q.next q.curr here_is.next here_is.curr j l

  left_is : left_of q store ≡ in_turn (rest_in q store) count q.curr
  unfolding left_of
  left_is = rw free

  -- each of them has left what it had
  elsewhere : (room : List ℕ) → length room ≡ ROOM → (j : ℕ) → j < count
      → rest_at (place j) (get_or q.places (place j) no_packet) (stored store q.next room) ≡ rest_in q store (place j)
  elsewhere room whole j l =
      rest_elsewhere store h.its_store q.next here_is.next room whole (place j) _ (apart j l)
      (within _ (place_at q.places (place j) (places q h.its_state)))

  pub cleared_keeps : (room : List ℕ) → length room ≡ ROOM → left_of q (stored store q.next room) ≡ left_of q store
  unfolding left_of
  cleared_keeps room whole = rw free (turn-same _ _ count q.curr here_is.curr (elsewhere room whole))

  pub packet_adds : Four q → (room : List ℕ) (len : ℕ) → length room ≡ ROOM → len ≤ DATA
      → left_of (with_packet q len) (stored store q.next room) ≡ left_of q store ++ frames_of (packet_in room len)
  unfolding left_of with_packet
  packet_adds four room len whole small =
      let p : Place = record { due = true; len = len; sent = 0 } in
      let store' : List ℕ = stored store q.next room in
      let f : ℕ → List AirFrame = λ k. rest_at k (get_or (set q.places q.next p) k no_packet) store' in
      let before : in_turn f count q.curr ≡ in_turn (rest_in q store) count q.curr =
      turn-same f (rest_in q store) count q.curr here_is.curr
      (λ j l. ap (λ (x : Place). rest_at (place j) x store') (get_or-set_other q.places q.next (place j) p no_packet (apart j l)) ∙ elsewhere room whole j l) in
      let last : f q.next ≡ frames_of (packet_in room len) =
      rw (get_or-set_same q.places q.next p no_packet (omega (arith, here_is))) (rest_there store h.its_store q.next here_is.next room whole len small) in
      rw (free, one_more q.next q.curr here_is.next here_is.curr)
      (turn_last f count q.curr here_is.curr ∙ rw (next-behind q.next q.curr here_is.next here_is.curr, last, before))

-- ---- a push

module _ (q : PacketQueue) (store : List ℕ) (four : Four q) (h : Sound q store) where
  -- nothing is accepted, and nothing changes
  none_added : left_of q store ≡ left_of q store ++ joined []
  unfolding joined
  none_added = sym (append-nil (left_of q store))

  obeyed_adds : q.full ≡ false → (made : Made) → Fits made → Adds q store made (obeyed q store made)
  unfolding obeyed joined
  obeyed_adds free malformed f = none_added
  obeyed_adds free unfit f = none_added
  obeyed_adds free overlong f = cleared_keeps q store h free (zeros ROOM) (length-zeros ROOM) ∙ none_added
  obeyed_adds free (fills room len) (fits_fills whole small) =
      packet_adds q store h free four room len whole small ∙ ap (λ (fs : List AirFrame). left_of q store ++ fs) (sym (append-nil (frames_of (packet_in room len))))

  pub pushing_adds : (made : Made) → Fits made → Adds q store made (pushing q store made)
  unfolding pushing
  pushing_adds made f =
      pick_all (Adds q store made) _ _ _
      (λ _. pick_all (Adds q store made) _ _ _ (λ _. pick_all (Adds q store made) _ _ _ (λ _. none_added) (λ free. obeyed_adds free made f)) (λ _. none_added))
      (λ _. none_added)

-- ---- four places

abbrev FourAfter : Pushed × List ℕ → Type 0
FourAfter r = Four r.0.queue

abbrev FourRead : PacketRead → Type 0
FourRead r = Four r.queue

obeyed_four : (q : PacketQueue) (store : List ℕ) → Four q → (made : Made) → FourAfter (obeyed q store made)
unfolding obeyed with_packet
obeyed_four q store four malformed = four
obeyed_four q store four unfit = four
obeyed_four q store four overlong = four
obeyed_four q store four (fills room len) = length-set q.places q.next _ ∙ four

pub pushing_four : (q : PacketQueue) (store : List ℕ) → Four q → (made : Made) → FourAfter (pushing q store made)
unfolding pushing
pushing_four q store four made =
    pick_all FourAfter _ _ _ (λ _. pick_all FourAfter _ _ _ (λ _. pick_all FourAfter _ _ _ (λ _. four) (λ _. obeyed_four q store four made)) (λ _. four)) (λ _. four)

walk_four : (n : ℕ) (q : PacketQueue) (store : List ℕ) → Four q → FourRead (walk n q store)
unfolding walk turn lsf_read data_read with_place advanced
walk_four zero q store four = four
walk_four (suc n) q store four =
    pick_all FourRead _ _ _ (λ _. four)
    (λ _. pick_all FourRead _ _ _ (λ _. length-set q.places q.curr _ ∙ four)
    (λ _. pick_all FourRead _ _ _ (λ _. walk_four n (advanced q) store four) (λ _. length-set q.places q.curr _ ∙ four)))

pub read_four : (q : PacketQueue) (store : List ℕ) → Four q → FourRead (read_next q store)
unfolding read_next
read_four q store four =
    pick_all FourRead _ _ _ (λ _. pick_all FourRead _ _ _ (λ _. pick_all FourRead _ _ _ (λ _. four) (λ _. walk_four 4 q store four)) (λ _. four)) (λ _. four)
