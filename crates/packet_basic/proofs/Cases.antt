-- What a port 0 frame comes to, case by case, as the code meets the cases. Assumes nothing.
use Prim.Native.Nat.{ℕ, ◌+◌, ◌≤◌, ◌<◌}
use mathlib.Core.Bool.{true, false}
use mathlib.Core.Path.{◌≡◌, ap, ◌∙◌}
use mathlib.Core.List.{List}
use borrow.Author.Tests.{le-leb, lt-leb}
use Rattle.choice.specs.Pick.{pick}
use Rattle.std.specs.Prelude.{Result, ℕ, Ok, is_ok}
use Rattle.kiss_layout.specs.declared.KissError.{KissError}
use Rattle.kiss_layout.specs.Read.{decoded}
use Rattle.packets.specs.Frames.{zeros}
use Rattle.packets.specs.Queue.{malformed, overlong, fills, basic_room, basic, made_basic}
use Rattle.packets.specs.Inside.{count_of}
use Rattle.packet_basic.proofs.Payloads.{no_payload, some_payload, any_room}

module _ (f : List ℕ) where
  abbrev count : ℕ
  count = count_of (decoded f (zeros 824)).0

  pub basic_malformed : is_ok (decoded f (zeros 1)).0 ≡ false → made_basic f ≡ malformed
  unfolding made_basic
  basic_malformed e = no_payload (decoded f (zeros 824)).0 (decoded f (zeros 824)).1 (any_room f (zeros 824) (zeros 1) ∙ e)

  module _ (e : is_ok (decoded f (zeros 1)).0 ≡ true) where
    holds : made_basic f ≡ basic (Ok count) (decoded f (zeros 824)).1
    unfolding made_basic
    holds = ap (λ (x : Result ℕ KissError). basic x (decoded f (zeros 824)).1) (some_payload (decoded f (zeros 824)).0 (any_room f (zeros 824) (zeros 1) ∙ e))

    pub basic_overlong : 822 < count → made_basic f ≡ overlong
    unfolding basic pick
    basic_overlong h = holds ∙ rw (lt-leb count 822 h)

    pub basic_fills : count ≤ 822 → made_basic f ≡ fills (basic_room count (decoded f (zeros 824)).1) (count + 3)
    unfolding basic pick
    basic_fills h = holds ∙ rw (le-leb count 822 h)
