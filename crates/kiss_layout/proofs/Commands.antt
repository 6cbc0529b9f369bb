-- Commands and their numbers. Assumes nothing.
use mathlib.Core.Logic.{◌≢◌}
use mathlib.Core.Path.{◌≡◌, refl}
use Prim.Native.Nat.{ℕ, ◌≤◌}
use native.Mathlib.Omega.{arith}
use borrow.Author.Tests.{ne_eqb}
use Rattle.choice.specs.Pick.{pick}
use Rattle.kiss_layout.specs.declared.KissCommand.{KissCommand}
use Rattle.kiss_layout.specs.declared.KissCommand.TheVariants.{DataFrame, TxDelay, P, FullDuplex}
use Rattle.std.specs.Prelude.{Err, Ok}
use Rattle.kiss_layout.specs.declared.KissError.TheVariants.{UnsupportedKissCommand}
use Rattle.kiss_layout.specs.Read.{command_number, command_for}

pub command_small : (c : KissCommand) → command_number c ≤ 5
command_small DataFrame = omega arith
command_small TxDelay = omega arith
command_small P = omega arith
command_small FullDuplex = omega arith

pub unsupported : (n : ℕ) → n ≢ 0 → n ≢ 1 → n ≢ 2 → n ≢ 5 → Err UnsupportedKissCommand ≡ command_for n
unfolding command_for pick
unsupported n a b c d = rw (ne_eqb n 0 a, ne_eqb n 1 b, ne_eqb n 2 c, ne_eqb n 5 d)

pub command_read_lem : (c : KissCommand) → command_for (command_number c) ≡ Ok c
unfolding command_for pick
command_read_lem DataFrame = refl
command_read_lem TxDelay = refl
command_read_lem P = refl
command_read_lem FullDuplex = refl
