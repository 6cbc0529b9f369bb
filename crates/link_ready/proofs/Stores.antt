-- What it says that all stores fit, and what three tests of their lengths come to. Assumes nothing.
use Prim.Native.Nat.{ℕ}
use mathlib.Core.Bool.{Bool, true, false, false≢true}
use mathlib.Core.Path.{◌≡◌, refl, sym}
use lib.Dec.{eqb}
use borrow.Author.Tests.{eqb-true}
use Rattle.choice.specs.Pick.{pick, and, and_fst, and_snd}
use Rattle.kiss_reader.specs.Reader.{STORE as READER}
use Rattle.packets.specs.Queue.{STORE as PACKETS}
use Rattle.streams.specs.Queue.{STORE as STREAMS}
use Rattle.host_record.specs.Host.{stores_fit}
use Rattle.host_record.proofs.Stores as both
use Rattle.link_ready.specs.Ready.{link_fits}

module _ (reader packets streams : ℕ) where
  module _ (e : link_fits reader packets streams ≡ true) where
    pub reader_fits : reader ≡ READER
    unfolding link_fits
    reader_fits = eqb-true reader READER (and_fst _ _ e)

    others_fit : stores_fit packets streams ≡ true
    unfolding link_fits
    others_fit = and_snd _ _ e

    pub packets_fit : packets ≡ PACKETS
    packets_fit = both.packets_fit packets streams others_fit

    pub streams_fit : streams ≡ STREAMS
    streams_fit = both.streams_fit packets streams others_fit

  -- a call that goes on only where all fit, and answers the same else
  pub unfit : {A : Type 0} (y : A) {r z : A} → link_fits reader packets streams ≡ false → r ≡ z
      → r ≡ pick (eqb reader READER) (pick (eqb packets PACKETS) (pick (eqb streams STREAMS) y z) z) z
  unfolding link_fits and pick
  unfit {A} y {r} {z} e f = by (eqb reader READER) (stores_fit packets streams) refl e
    where
      by : (a b : Bool) → stores_fit packets streams ≡ b → and a b ≡ false → r ≡ pick a (pick (eqb packets PACKETS) (pick (eqb streams STREAMS) y z) z) z
      by true true s g = absurd (false≢true (sym g))
      by true false s g = both.unfit packets streams y s f
      by false b s g = f
