-- What the definition of a push comes to where the frame leaves no trace. Assumes nothing.
use mathlib.Core.Path.{◌≡◌, ◌∙◌}
use mathlib.Core.Bool.{false}
use mathlib.Core.List.{List}
use Prim.Native.Nat.{ℕ}
use lib.ListN.{length}
use borrow.Author.Tests.{eq-eqb, ne_eqb}
use Rattle.choice.specs.Pick.{pick}
use Rattle.crc.specs.Crc.{crc_of}
use Rattle.streams.specs.declared.StreamQueue.{StreamQueue}
use Rattle.std.specs.Prelude.{Err, Ok}
use Rattle.kiss_layout.specs.declared.PushError.TheVariants.{WrongStore, OutOfBounds}
use Rattle.streams.specs.declared.StreamPush.TheVariants.{Ignored}
use Rattle.streams.specs.Queue.{STORE, sound_queue, not_pushed, lsf_pushed, pushed}

module _ (q : StreamQueue) (frame store : List ℕ) where
  pub pushed_wrong : (length store ≡ STORE → ⊥) → not_pushed (Err WrongStore) q store ≡ pushed q frame store
  unfolding pushed pick
  pushed_wrong f = rw (ne_eqb (length store) STORE f)

  pub pushed_unsound : length store ≡ STORE → sound_queue q ≡ false → not_pushed (Err OutOfBounds) q store ≡ pushed q frame store
  unfolding pushed pick
  pushed_unsound l e = rw (eq-eqb (length store) STORE l, e)

module _ (q : StreamQueue) (payload store : List ℕ) where
  pub lsf_wrong : {n : ℕ} → n ≡ crc_of payload → (n ≡ 0 → ⊥) → not_pushed (Ok Ignored) q store ≡ lsf_pushed q payload store
  unfolding lsf_pushed pick
  lsf_wrong e f = rw (ne_eqb (crc_of payload) 0 (λ z. f (e ∙ z)))
