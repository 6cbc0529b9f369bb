-- What a port 1 frame comes to, case by case, as the code meets the cases. Assumes nothing.
use Prim.Native.Nat.{ℕ, ◌-◌, ◌≤◌, ◌<◌}
use mathlib.Core.Path.{◌≡◌, refl, sym, ap, ◌∙◌}
use mathlib.Core.List.{List}
use borrow.Author.Tests.{eq-eqb, ne_eqb, le-leb, lt-leb}
use lib.ListN.{take}
use Rattle.choice.specs.Pick.{pick, and}
use Rattle.crc.specs.Crc.{crc_of}
use Rattle.std.specs.Prelude.{Result, ℕ, Err, Ok}
use Rattle.kiss_layout.specs.declared.KissError.{KissError}
use Rattle.kiss_layout.specs.Read.{decoded}
use Rattle.packets.specs.Frames.{zeros}
use Rattle.packets.specs.Queue.{ROOM, malformed, unfit, fills, full, made_full}

module _ (f : List ℕ) {x : Result ℕ KissError} {d : List ℕ} (e : (x, d) ≡ decoded f (zeros ROOM)) where
  read_full : {y : Result ℕ KissError} → x ≡ y → made_full f ≡ full y d
  unfolding made_full
  read_full p = ap (λ (z : Result ℕ KissError × List ℕ). full z.0 z.1) (sym e) ∙ ap (λ (z : Result ℕ KissError). full z d) p

  pub full_malformed : ((n : ℕ) → x ≡ Ok n → ⊥) → made_full f ≡ malformed
  unfolding full
  full_malformed h = read_full refl ∙ no_count x h
    where
      no_count : (y : Result ℕ KissError) → ((n : ℕ) → y ≡ Ok n → ⊥) → full y d ≡ malformed
      no_count (Ok n) g = absurd (g n refl)
      no_count (Err k) g = refl

  module _ (n : ℕ) (p : x ≡ Ok n) where
    pub full_short : n < 33 → made_full f ≡ unfit
    unfolding full pick and
    full_short h = read_full p ∙ rw (lt-leb 33 n h)

    pub full_unsealed : 33 ≤ n → (crc_of (take 30 d) ≡ 0 → ⊥) → made_full f ≡ unfit
    unfolding full pick and
    full_unsealed h g = read_full p ∙ rw (le-leb 33 n h, ne_eqb (crc_of (take 30 d)) 0 g)

    pub full_fills : 33 ≤ n → crc_of (take 30 d) ≡ 0 → made_full f ≡ fills d (n - 30)
    unfolding full pick and
    full_fills h g = read_full p ∙ rw (le-leb 33 n h, eq-eqb (crc_of (take 30 d)) 0 g)
