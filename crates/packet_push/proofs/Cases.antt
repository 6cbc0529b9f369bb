-- What the definitions of the pushes come to, case by case, as the code of both meets the cases. Assumes nothing.
use Prim.Native.Nat.{ℕ, ◌<◌}
use mathlib.Core.Bool.{true, false}
use mathlib.Core.Path.{◌≡◌, ◌∙◌}
use mathlib.Core.List.{List}
use borrow.Author.Tests.{eq-eqb, ne_eqb, lt-ltb}
use lib.ListN.{length}
use Rattle.choice.specs.Pick.{pick}
use Rattle.packets.specs.declared.PacketQueue.{PacketQueue}
use Rattle.std.specs.Prelude.{Err, Ok}
use Rattle.kiss_layout.specs.declared.PushError.TheVariants.{WrongStore, OutOfBounds}
use Rattle.packets.specs.declared.Push.TheVariants.{Ignored, Queued}
use Rattle.packets.specs.declared.Pushed.{Pushed}
use Rattle.packets.specs.Queue.{STORE, sound_queue, Made, with_packet, not_pushed, obeyed, pushing}
use Rattle.packet_push.specs.Accepted.{accepted_as}

-- ---- the tests that every push makes first

module _ (q : PacketQueue) (store : List ℕ) (made : Made) where
  pub pushing_wrong : (length store ≡ STORE → ⊥) → not_pushed (Err WrongStore) q store ≡ pushing q store made
  unfolding pushing pick
  pushing_wrong f = rw (ne_eqb (length store) STORE f)

  pub pushing_unsound : length store ≡ STORE → sound_queue q ≡ false → not_pushed (Err OutOfBounds) q store ≡ pushing q store made
  unfolding pushing pick
  pushing_unsound l e = rw (eq-eqb (length store) STORE l, e)

  pub pushing-full : length store ≡ STORE → sound_queue q ≡ true → q.full ≡ true → not_pushed (Ok Ignored) q store ≡ pushing q store made
  unfolding pushing pick
  pushing-full l e f = rw (eq-eqb (length store) STORE l, e, f)

  pub pushing-obeyed : length store ≡ STORE → sound_queue q ≡ true → q.full ≡ false → {made' : Made} → made ≡ made' → obeyed q store made' ≡ pushing q store made
  unfolding pushing pick
  pushing-obeyed l e f m = rw (eq-eqb (length store) STORE l, e, f, m)

-- ---- where there is a place, a packet is accepted

pub was_accepted : (q : PacketQueue) (len : ℕ) {r : Pushed} → r ≡ accepted_as q len → q.next < 4 → r ≡ record { answer = Ok Queued; queue = with_packet q len }
unfolding accepted_as pick
was_accepted q len e n = e ∙ rw (lt-ltb q.next 4 n)
