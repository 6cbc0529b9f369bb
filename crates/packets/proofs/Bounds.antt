-- What the bounds of a queue say, and that the changes keep them. Assumes nothing.
use Prim.Native.Nat.{ℕ, zero, suc, ◌+◌, ◌%◌, ◌≤◌, ◌<◌}
use mathlib.Core.Path.{◌≡◌, refl, sym, ◌∙◌}
use mathlib.Core.Bool.{Bool, true, false, ◌&&◌}
use mathlib.Core.List.{List, [], ◌∷◌}
use native.Mathlib.Numerals.{add-one}
use native.Mathlib.Omega.{arith}
use borrow.Author.Tests.{ltb-true, leb-true, lt-ltb, le-leb, lt-leb}
use lib.Dec.{leb, eqb}
use lib.ListN.{length, get_or, set, drop, drop_of_length-le}
use Rattle.std.specs.List.{list_all}
use Rattle.choice.specs.Pick.{pick, and, and_fst, and_snd, and_both, and_no, and_go}
use Rattle.choice.specs.Cases.{all_pass}
use Rattle.packets.specs.declared.Place.{Place}
use Rattle.packets.specs.declared.PacketQueue.{PacketQueue}
use Rattle.packets.specs.Queue.{DATA, no_packet, sound_place, sound_queue, here, with_place, advanced, with_packet}

-- ---- places

pub sound_place_lem : (p : Place) → p.sent ≤ p.len → p.len ≤ DATA → sound_place p ≡ true
unfolding sound_place
sound_place_lem p h k = and_both (le-leb p.sent p.len h) (le-leb p.len DATA k)

-- the tests as the code asks them
pub and_is : (a b : Bool) → (a && b) ≡ and a b
unfolding and
and_is true b = refl
and_is false b = refl

pub places_all : (ps : List Place) → list_all (λ (p : Place). leb p.sent p.len && leb p.len DATA) ps ≡ all_pass sound_place ps
unfolding all_pass sound_place
places_all [] = refl
places_all (p ∷ ps) = and_is _ _ ∙ (λ t. and (and_is (leb p.sent p.len) (leb p.len DATA) t) (places_all ps t))

pub place_at : (ps : List Place) (i : ℕ) → all_pass sound_place ps ≡ true → sound_place (get_or ps i no_packet) ≡ true
unfolding all_pass
place_at [] i s = sound_place_lem no_packet (omega arith) (omega arith)
place_at (p ∷ ps) zero s = and_fst _ _ s
place_at (p ∷ ps) (suc i) s = place_at ps i (and_snd _ _ s)

places_set : (ps : List Place) (i : ℕ) (p : Place) → all_pass sound_place ps ≡ true → sound_place p ≡ true → all_pass sound_place (set ps i p) ≡ true
unfolding all_pass
places_set [] i p s h = s
places_set (x ∷ ps) zero p s h = and_both h (and_snd _ _ s)
places_set (x ∷ ps) (suc i) p s h = and_both (and_fst _ _ s) (places_set ps i p (and_snd _ _ s) h)

-- ---- the queue

module _ (q : PacketQueue) (s : sound_queue q ≡ true) where
  pub places : all_pass sound_place q.places ≡ true
  unfolding sound_queue
  places = and_fst _ _ s

  next_below : q.next < 4
  unfolding sound_queue
  next_below = ltb-true q.next 4 (and_fst _ _ (and_snd _ _ s))

  curr_below : q.curr < 4
  unfolding sound_queue
  curr_below = ltb-true q.curr 4 (and_fst _ _ (and_snd _ _ (and_snd _ _ s)))

  here_sound : sound_place (here q) ≡ true
  here_sound = place_at q.places q.curr places

  sent_within : (here q).sent ≤ (here q).len
  unfolding sound_place
  sent_within = leb-true (here q).sent (here q).len (and_fst _ _ here_sound)

  len_within : (here q).len ≤ DATA
  unfolding sound_place
  len_within = leb-true (here q).len DATA (and_snd _ _ here_sound)

  pub sound_advanced : sound_queue (advanced q) ≡ true
  unfolding sound_queue advanced pick
  sound_advanced = and_both places (and_both (lt-ltb q.next 4 next_below) (and_both (lt-ltb ((q.curr + 1) % 4) 4 (omega arith)) refl))

  pub sound_with : (p : Place) → p.sent ≤ p.len → p.len ≤ DATA → sound_queue (with_place q p) ≡ true
  unfolding sound_queue with_place
  sound_with p h k = and_both (places_set q.places q.curr p places (sound_place_lem p h k)) (and_snd _ _ s)

  pub sound_packet : (len : ℕ) → len ≤ DATA → sound_queue (with_packet q len) ≡ true
  unfolding sound_queue with_packet pick
  sound_packet len h =
      and_both (places_set q.places q.next _ places (sound_place_lem (record { due = true; len = len; sent = 0 }) (omega arith) h))
      (and_both (lt-ltb ((q.next + 1) % 4) 4 (omega arith)) (and_both (lt-ltb q.curr 4 curr_below) (by (eqb ((q.next + 1) % 4) q.curr))))
    where
      by : (b : Bool) → pick b b true ≡ true
      by true = refl
      by false = refl

-- for `omega`
pub record Here (q : PacketQueue) : Type 0 where
  pub curr : q.curr < 4
  pub next : q.next < 4
  pub sent : (here q).sent ≤ (here q).len
  pub len : (here q).len ≤ DATA

pub at_here : (q : PacketQueue) → sound_queue q ≡ true → Here q
at_here q s = record { curr = curr_below q s; next = next_below q s; sent = sent_within q s; len = len_within q s }
