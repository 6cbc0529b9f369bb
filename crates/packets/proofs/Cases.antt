-- What the definition of a read comes to, case by case, as the code meets the cases. Assumes nothing.
use mathlib.Core.Bool.{true, false}
use mathlib.Core.Path.{◌≡◌}
use Prim.Native.Nat.{ℕ}
use mathlib.Core.List.{List}
use borrow.Author.Tests.{eq-eqb, ne_eqb}
use lib.ListN.{length}
use Rattle.std.specs.Prelude.{Ok, Err, None}
use Rattle.choice.specs.Pick.{pick}
use Rattle.packets.specs.declared.PacketQueue.{PacketQueue}
use Rattle.room.specs.declared.LentError.TheVariants.{WrongStore as NoStore, OutOfBounds as NoState}
use Rattle.packets.specs.Queue.{STORE, sound_queue, is_empty, not_read, walk, read_next}

module _ (q : PacketQueue) (store : List ℕ) where
  pub read_wrong : (length store ≡ STORE → ⊥) → not_read (Err NoStore) q ≡ read_next q store
  unfolding read_next pick
  read_wrong f = rw (ne_eqb (length store) STORE f)

  pub read_unsound : length store ≡ STORE → sound_queue q ≡ false → not_read (Err NoState) q ≡ read_next q store
  unfolding read_next pick
  read_unsound l e = rw (eq-eqb (length store) STORE l, e)

  pub read_empty : length store ≡ STORE → sound_queue q ≡ true → is_empty q ≡ true → not_read (Ok None) q ≡ read_next q store
  unfolding read_next pick
  read_empty l e f = rw (eq-eqb (length store) STORE l, e, f)

  pub read_walks : length store ≡ STORE → sound_queue q ≡ true → is_empty q ≡ false → walk 4 q store ≡ read_next q store
  unfolding read_next pick
  read_walks l e f = rw (eq-eqb (length store) STORE l, e, f)
