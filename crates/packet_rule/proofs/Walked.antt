-- A read takes the first frame of what is left; where it gives none, nothing is left. Assumes nothing.
use Prim.Native.Nat.{ℕ, zero, suc, ◌+◌, ◌-◌, ◌%◌, ◌≤◌, ◌<◌, min}
use mathlib.Core.Path.{◌≡◌, refl, sym, ap, subst, ◌∙◌}
use mathlib.Core.Logic.{◌≢◌}
use mathlib.Core.Bool.{Bool, true, false, false≢true}
use mathlib.Core.List.{List, [], ◌∷◌, ◌++◌}
use native.Mathlib.Omega.{arith}
use borrow.Author.Tests.{ltb-true, ltb-false, eqb-true, eqb-false}
use lib.Dec.{ltb, eqb}
use lib.ListN.{length, get_or-eq_default}
use lib.Seq.{get_or-set_same, get_or-set_other}
use Rattle.choice.specs.Pick.{pick, and_snd, pick_all}
use Rattle.packets.specs.declared.Place.{Place}
use Rattle.packets.specs.declared.PacketQueue.{PacketQueue}
use Rattle.packets.specs.declared.PacketRead.{PacketRead}
use Rattle.packets.specs.Frames.{AirFrame}
use Rattle.packets.specs.Queue.{STORE, no_packet, sound_queue, is_empty, here, with_place, advanced, lsf_read, data_read, turn, walk, read_next}
use Rattle.packets.proofs.Bounds.{at_here, sound_advanced}
use Rattle.packets.proofs.Cases.{read_empty, read_walks}
use Rattle.packet_rule.specs.Left.{rest_at, waiting, in_turn, rest_in, left_of}
use Rattle.packet_rule.specs.Promises.{given}
use Rattle.packet_rule.proofs.Ring.{turn-same, Tied, none_wait, some_wait, four_at_most, one_less}
use Rattle.packet_rule.proofs.Rests.{lsf_given_lem, sent_on, lsf_first, spent_has_none, data_first}

-- ---- the place that is read next

-- how many places of the queue wait
abbrev pub waits : PacketQueue → ℕ
waits q = waiting q.full q.next q.curr

-- the rest of its places, where one less waits
abbrev behind : PacketQueue → List ℕ → ℕ → List AirFrame
behind q store n = in_turn (rest_in q store) n ((q.curr + 1) % 4)

pub tied : (q : PacketQueue) → sound_queue q ≡ true → Tied q.full q.next q.curr
unfolding sound_queue pick
tied q s = by q.full (and_snd _ _ (and_snd _ _ (and_snd _ _ s)))
  where
    by : (b : Bool) → pick b (eqb q.next q.curr) true ≡ true → b ≡ true → q.next ≡ q.curr
    by true e h = eqb-true _ _ e
    by false e h = absurd (false≢true h)

left_here : (q : PacketQueue) (store : List ℕ) (n : ℕ) → waits q ≡ suc n → left_of q store ≡ rest_at q.curr (here q) store ++ behind q store n
unfolding left_of in_turn
left_here q store n e = rw e

pub left-none : (q : PacketQueue) (store : List ℕ) → waits q ≡ 0 → left_of q store ≡ []
unfolding left_of in_turn
left-none q store e = rw e

module _ (q : PacketQueue) (store : List ℕ) (s : sound_queue q ≡ true) (n : ℕ) (e : waits q ≡ suc n) where
  -- it is passed over
  left_behind : rest_at q.curr (here q) store ≡ [] → left_of q store ≡ left_of (advanced q) store
  unfolding left_of advanced
  left_behind r = left_here q store n e ∙ rw (r, one_less q.next q.curr (at_here q s).next (at_here q s).curr q.full n (tied q s) e)

  -- it is another
  left_with : (p : Place) → q.curr < length q.places → left_of (with_place q p) store ≡ rest_at q.curr p store ++ behind q store n
  unfolding with_place
  left_with p h =
      let a = at_here q s in
      left_here (with_place q p) store n e
      ∙ rw (get_or-set_same q.places q.curr p no_packet h)
      (ap (λ (fs : List AirFrame). rest_at q.curr p store ++ fs)
      (turn-same (rest_in (with_place q p) store) (rest_in q store) n ((q.curr + 1) % 4) (omega arith)
      (λ j l. ap (λ (x : Place). rest_at (((q.curr + 1) % 4 + j) % 4) x store)
      (get_or-set_other q.places q.curr (((q.curr + 1) % 4 + j) % 4) p no_packet (omega (arith, four_at_most q.next q.curr a.next a.curr q.full))))))

-- a place beyond the array has no packet
beyond : (q : PacketQueue) → length q.places ≤ q.curr → here q ≡ no_packet
beyond q h = get_or-eq_default q.places no_packet h

there : (q : PacketQueue) → (here q ≡ no_packet → ⊥) → q.curr < length q.places
there q f = by (ltb q.curr (length q.places)) refl
  where
    by : (b : Bool) → ltb q.curr (length q.places) ≡ b → q.curr < length q.places
    by true e = ltb-true _ _ e
    by false e = absurd (f (beyond q (ltb-false _ _ e)))

-- ---- the walk over the places

-- what a read gives stands first in what is left, which is otherwise as it was; it gives no frame only where nothing is left
pub record Takes (q : PacketQueue) (store : List ℕ) (r : PacketRead) : Type 0 where
  pub kept : left_of q store ≡ given r ++ left_of r.queue store
  pub used_up : given r ≡ [] → left_of q store ≡ []

pub one_is_some : (f : AirFrame) → (f ∷ [] ≡ []) → ⊥
one_is_some f e = let h : length (f ∷ []) ≡ 0 = ap length e in absurd (omega arith)

module _ (store : List ℕ) where
  -- one frame of the place that is read next
  takes_one : (q : PacketQueue) (p : Place) (f : AirFrame) (r : PacketRead) → sound_queue q ≡ true → is_empty q ≡ false → (here q ≡ no_packet → ⊥)
      → given r ≡ f ∷ [] → r.queue ≡ with_place q p → rest_at q.curr (here q) store ≡ f ∷ rest_at q.curr p store → Takes q store r
  unfolding is_empty
  takes_one q p f r s some held one to first =
      let a = at_here q s in
      let n : ℕ = waits q - 1 in
      let e : waits q ≡ suc n = omega (arith, some_wait q.next q.curr a.next a.curr q.full some) in
      record {
        kept = rw (one, to) (left_here q store n e ∙ rw (first, left_with q store s n e p (there q held)));
        used_up = λ z. absurd (one_is_some f (sym one ∙ z));
      }

  takes_none : (q : PacketQueue) (r : PacketRead) → given r ≡ [] → r.queue ≡ q → left_of q store ≡ [] → Takes q store r
  takes_none q r none to e = record { kept = rw (none, to); used_up = λ _. e }

  takes-behind : (q : PacketQueue) (r : PacketRead) → left_of q store ≡ left_of (advanced q) store → Takes (advanced q) store r → Takes q store r
  takes-behind q r e t = record { kept = e ∙ t.kept; used_up = λ z. e ∙ t.used_up z }

  empty_has_none : (q : PacketQueue) → sound_queue q ≡ true → is_empty q ≡ true → left_of q store ≡ []
  unfolding is_empty
  empty_has_none q s e = let a = at_here q s in left-none q store (none_wait q.next q.curr a.next a.curr q.full e)

  module _ (l : length store ≡ STORE) where
    lsf_takes : (q : PacketQueue) → sound_queue q ≡ true → is_empty q ≡ false → (here q).due ≡ true → Takes q store (lsf_read q store)
    unfolding lsf_read
    lsf_takes q s some due =
        takes_one q (lsf_given_lem (here q)) _ _ s some (λ z. absurd (false≢true (sym (ap (λ (p : Place). p.due) z) ∙ due))) refl refl (lsf_first store q.curr (here q) due)

    data_takes : (q : PacketQueue) → sound_queue q ≡ true → is_empty q ≡ false → (here q).due ≡ false → (here q).sent ≢ (here q).len → Takes q store (data_read q store)
    unfolding data_read
    data_takes q s some given more =
        let a = at_here q s in
        let p : Place = here q in
        takes_one q (sent_on p (min 25 (p.len - p.sent))) _ _ s some (λ z. more (ap (λ (x : Place). x.sent) z ∙ sym (ap (λ (x : Place). x.len) z))) refl refl
        (data_first store q.curr p l a.curr (record { sent = a.sent; len = a.len }) more given)

    -- a place that is spent is passed over
    passed : (n : ℕ) (q : PacketQueue) → sound_queue q ≡ true → is_empty q ≡ false → (here q).due ≡ false → (here q).sent ≡ (here q).len → waits q ≤ suc n
        → {r : PacketRead} → (waits (advanced q) ≤ n → Takes (advanced q) store r) → Takes q store r
    unfolding is_empty advanced
    passed n q s some told spent h {r} on =
        let a = at_here q s in
        let m : ℕ = waits q - 1 in
        let e : waits q ≡ suc m = omega (arith, some_wait q.next q.curr a.next a.curr q.full some) in
        let f : waiting false q.next ((q.curr + 1) % 4) ≡ m = one_less q.next q.curr a.next a.curr q.full m (tied q s) e in
        takes-behind q r (left_behind q store s m e (spent_has_none store q.curr (here q) told spent)) (on (omega arith))

    -- at most n places are passed over, which is enough where no more wait
    walk-takes : (n : ℕ) (q : PacketQueue) → sound_queue q ≡ true → waits q ≤ n → Takes q store (walk n q store)
    unfolding walk turn
    walk-takes zero q s h = takes_none q _ refl refl (left-none q store (omega arith))
    walk-takes (suc n) q s h =
        pick_all (Takes q store) _ _ _ (λ none. takes_none q _ refl refl (empty_has_none q s none)) (λ some.
        pick_all (Takes q store) _ _ _ (λ due. lsf_takes q s some due) (λ told.
        pick_all (Takes q store) _ _ _ (λ spent. passed n q s some told (eqb-true _ _ spent) h (walk-takes n (advanced q) (sound_advanced q s)))
        (λ more. data_takes q s some told (eqb-false _ _ more))))

    pub read_takes_one : (q : PacketQueue) → sound_queue q ≡ true → Takes q store (read_next q store)
    read_takes_one q s = by (is_empty q) refl
      where
        by : (b : Bool) → is_empty q ≡ b → Takes q store (read_next q store)
        by true e = subst (Takes q store) (read_empty q store l s e) (takes_none q _ refl refl (empty_has_none q s e))
        by false e =
            let a = at_here q s in
            subst (Takes q store) (read_walks q store l s e) (walk-takes 4 q s (four_at_most q.next q.curr a.next a.curr q.full))
