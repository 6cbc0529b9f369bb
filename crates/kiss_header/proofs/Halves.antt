-- The header that the index behind the FENDs gives, and port and command as its halves. Assumes nothing.
use Rattle.std.proofs.Common.{ℕ, ◌/◌, ◌%◌, ◌≡◌, refl, Bool, true, false, List, [], ◌∷◌}
use Rattle.std.specs.Prelude.{suc, Result, Ok, Err, slice_get, ok_or}
use Rattle.choice.specs.Pick.{pick}
use Rattle.kiss_layout.specs.declared.KissError.{KissError}
use Rattle.kiss_layout.specs.declared.KissError.TheVariants.{MalformedKissFrame}
use Rattle.kiss_layout.specs.Scan.{is_fend, after_fends, run_of}
use Rattle.kiss_layout.specs.Read.{port_at, port_read, command_for, command_at, command_read}

pub header_at : (f : List ℕ) → slice_get f (run_of is_fend f) ≡ slice_get (after_fends f) 0
unfolding after_fends run_of pick
header_at [] = refl
header_at (b ∷ s) = by (is_fend b) (header_at s)
  where
    by : (t : Bool) → slice_get s (run_of is_fend s) ≡ slice_get (after_fends s) 0 → slice_get (b ∷ s) (pick t (suc (run_of is_fend s)) 0) ≡ slice_get (pick t (after_fends s) (b ∷ s)) 0
    by true h = h
    by false h = refl

module _ (f : List ℕ) where
  pub port_err : {e : KissError} → Err e ≡ ok_or (slice_get (after_fends f) 0) MalformedKissFrame → Err e ≡ port_read f
  unfolding port_read
  port_err = by (after_fends f)
    where
      by : (l : List ℕ) {e : KissError} → Err e ≡ ok_or (slice_get l 0) MalformedKissFrame → Err e ≡ port_at l
      by [] h = h
      by (b ∷ l) h = cc

  pub port_ok : {b : ℕ} → Ok b ≡ ok_or (slice_get (after_fends f) 0) MalformedKissFrame → Ok (b / 16) ≡ port_read f
  unfolding port_read
  port_ok = by (after_fends f)
    where
      by : (l : List ℕ) {b : ℕ} → Ok b ≡ ok_or (slice_get l 0) MalformedKissFrame → Ok (b / 16) ≡ port_at l
      by [] h = cc
      by (b ∷ l) h = cc

  pub command_err : {e : KissError} → Err e ≡ ok_or (slice_get (after_fends f) 0) MalformedKissFrame → Err e ≡ command_read f
  unfolding command_read
  command_err = by (after_fends f)
    where
      by : (l : List ℕ) {e : KissError} → ◌≡◌ {A = Result ℕ KissError} (Err e) (ok_or (slice_get l 0) MalformedKissFrame) → Err e ≡ command_at l
      by [] h = cc
      by (b ∷ l) h = cc

  pub command_ok : {b : ℕ} → Ok b ≡ ok_or (slice_get (after_fends f) 0) MalformedKissFrame → command_for (b % 16) ≡ command_read f
  unfolding command_read
  command_ok = by (after_fends f)
    where
      by : (l : List ℕ) {b : ℕ} → Ok b ≡ ok_or (slice_get l 0) MalformedKissFrame → command_for (b % 16) ≡ command_at l
      by [] h = cc
      by (b ∷ l) h = cc
