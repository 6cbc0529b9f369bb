-- What it says that both stores fit, and what two tests of their lengths come to. Assumes nothing.
use Prim.Native.Nat.{ℕ}
use mathlib.Core.Bool.{Bool, true, false, false≢true}
use mathlib.Core.Path.{◌≡◌, sym}
use lib.Dec.{eqb}
use borrow.Author.Tests.{eqb-true}
use Rattle.choice.specs.Pick.{pick, and, and_fst, and_snd}
use Rattle.packets.specs.Queue.{STORE as PACKETS}
use Rattle.streams.specs.Queue.{STORE as STREAMS}
use Rattle.host_record.specs.Host.{stores_fit}

module _ (packets streams : ℕ) where
  pub packets_fit : stores_fit packets streams ≡ true → packets ≡ PACKETS
  unfolding stores_fit
  packets_fit e = eqb-true packets PACKETS (and_fst _ _ e)

  pub streams_fit : stores_fit packets streams ≡ true → streams ≡ STREAMS
  unfolding stores_fit
  streams_fit e = eqb-true streams STREAMS (and_snd _ _ e)

  -- a call that goes on only where both fit, and answers the same else
  pub unfit : {A : Type 0} (y : A) {r z : A} → stores_fit packets streams ≡ false → r ≡ z → r ≡ pick (eqb packets PACKETS) (pick (eqb streams STREAMS) y z) z
  unfolding stores_fit and pick
  unfit {A} y {r} {z} e f = by (eqb packets PACKETS) (eqb streams STREAMS) e
    where
      by : (a b : Bool) → and a b ≡ false → r ≡ pick a (pick b y z) z
      by true true g = absurd (false≢true (sym g))
      by true false g = f
      by false b g = f
