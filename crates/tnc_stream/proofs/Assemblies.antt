-- LICH acquisition: what an assembly makes of a collection. Assumes nothing.
use Prim.Native.Nat.{ℕ, ◌+◌, ◌<◌}
use mathlib.Core.Bool.{Bool, true, false}
use mathlib.Core.Path.{◌≡◌, refl, sym, ap, ◌∙◌}
use mathlib.Core.List.{List}
use borrow.Author.Tests.{lt-leb, eq-eqb, ne_eqb}
use lib.Dec.{eqb}
use lib.ListN.{length}
use Rattle.choice.specs.Pick.{pick, and}
use Rattle.crc.specs.Crc.{crc_of}
use Rattle.lich.specs.declared.LichCollection.{LichCollection}
use Rattle.lich.specs.declared.LichError.{LichError}
use Rattle.lich.specs.Lich.{heard_count, assembled}
use Rattle.std.specs.Prelude.{Result, Ok, Err, Option, Some, None}
use Rattle.kiss_layout.specs.declared.BuildError.{BuildError}
use Rattle.kiss_layout.specs.Build.{stream_setup, built}
use Rattle.state.specs.declared.State.TheVariants.{RxStream}
use Rattle.radio.specs.declared.Radio.{Radio}
use Rattle.radio.specs.declared.Heard.{Heard}
use Rattle.radio.specs.Radio.{MESSAGE, to_host}
use Rattle.radio_told.specs.Inside.{told_of}
use Rattle.radio.proofs.Messages.{setup_accepted}
use Rattle.radio_told.proofs.Tells.{told}
use Rattle.tnc_stream.specs.Restarted.{collecting}
use Rattle.tnc_stream.specs.Acquired.{acquired_with}

-- what each answer of the assembly comes to: an LSF whose CRC is 0 goes to the host
abbrev pub by_assembly : Radio → LichCollection → ℕ → List ℕ → Result (Option (List ℕ)) LichError → Heard × List ℕ
by_assembly r c number out (Ok (Some bytes)) =
    pick (eqb (crc_of bytes) 0) (told_of (RxStream (number + 1)) (built (stream_setup bytes) out).0, (built (stream_setup bytes) out).1) (collecting r c, out)
by_assembly r c number out (Ok None) = (collecting r c, out)
by_assembly r c number out (Err e) = (collecting r c, out)

module _ (r : Radio) (c : LichCollection) (number : ℕ) (out : List ℕ) where
  by_assembly_lem : c.mask < 64 → length c.segments ≡ 30 → length out ≡ MESSAGE → by_assembly r c number out (assembled c) ≡ acquired_with r c number out
  unfolding assembled acquired_with pick and
  by_assembly_lem m n full = rw (lt-leb 64 c.mask m) (go (eqb (heard_count c.mask) 6))
    where
      go : (t : Bool) → by_assembly r c number out (pick t (Ok (Some c.segments)) (Ok None))
          ≡ pick (and t (eqb (crc_of c.segments) 0)) (to_host (RxStream (number + 1)) (stream_setup c.segments) out) (collecting r c, out)
      go true =
          let b = stream_setup c.segments in
          ap (λ (h : Heard × List ℕ). pick (eqb (crc_of c.segments) 0) h (collecting r c, out))
          (told (RxStream (number + 1)) b out (built b out).1 (built b out).0 (told_of (RxStream (number + 1)) (built b out).0) (setup_accepted c.segments n) full refl refl)
      go false = refl

  -- as the code chooses, with a sound collection and a store of the right length
  pub answered_as : {w v : Result (Option (List ℕ)) LichError} → c.mask < 64 → length c.segments ≡ 30 → length out ≡ MESSAGE → w ≡ assembled c → w ≡ v
      → by_assembly r c number out v ≡ acquired_with r c number out
  answered_as m n full e t = ap (by_assembly r c number out) (sym t ∙ e) ∙ by_assembly_lem m n full

  pub wrong_crc : (bytes : List ℕ) {h : Heard} {k : ℕ} → h ≡ collecting r c → k ≡ crc_of bytes → (k ≡ 0 → ⊥) → (h, out) ≡ by_assembly r c number out (Ok (Some bytes))
  unfolding pick
  wrong_crc bytes e q n = rw (← q, ne_eqb _ 0 n) (λ t. (e t, out))

  pub right_crc : (bytes : List ℕ) {h : Heard} {b : (Result ℕ BuildError)} {last : List ℕ} {k : ℕ} → h ≡ told_of (RxStream (number + 1)) b → (b, last) ≡ built (stream_setup bytes) out
      → k ≡ crc_of bytes → k ≡ 0 → (h, last) ≡ by_assembly r c number out (Ok (Some bytes))
  unfolding pick
  right_crc bytes {last = last} e p q n = rw (eq-eqb (crc_of bytes) 0 (sym q ∙ n)) ((λ t. (e t, last)) ∙ (λ t. (told_of (RxStream (number + 1)) (p t).0, (p t).1)))
