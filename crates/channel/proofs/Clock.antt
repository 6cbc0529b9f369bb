-- The clock's setter: what a change of the record comes to, by the tests before it. Assumes nothing.
use Prim.Native.Nat.{ℕ, ◌≤◌}
use mathlib.Core.Bool.{false}
use mathlib.Core.Path.{◌≡◌, refl}
use borrow.Author.Tests.{le-leb}
use Rattle.std.specs.Prelude.{Ok, Err}
use Rattle.choice.specs.Pick.{pick}
use Rattle.channel.specs.declared.Channel.{Channel}
use Rattle.channel.specs.declared.ChannelSet.{ChannelSet}
use Rattle.channel.specs.declared.ChannelError.TheVariants.{OutOfBounds}
use Rattle.channel.specs.Access.{LAST, sound_channel, with_clock, is_set, clock_set}

module _ (c : Channel) (n : ℕ) where
  abbrev set_to : ChannelSet
  set_to = pick (sound_channel c) (is_set (Ok tt) (with_clock c n)) (is_set (Err OutOfBounds) c)

  pub in_range : n ≤ LAST → set_to ≡ clock_set c n
  unfolding clock_set pick
  in_range h = rw (le-leb n LAST h)

  pub unsound : sound_channel c ≡ false → set_to ≡ clock_set c n
  unfolding clock_set pick
  unsound e = rw e
