-- A frame's payload, found by index. Assumes nothing.
use mathlib.Core.Path.{◌≡◌, sym, ap, ◌∙◌}
use mathlib.Core.List.{List}
use mathlib.Core.Option.{Option, some}
use Prim.Native.Nat.{ℕ, ◌+◌, ◌≤◌, ◌<◌}
use native.Mathlib.Omega.{arith}
use lib.ListN.{length, take, drop}
use Rattle.std.specs.Prelude.{Err, Ok, slice_range}
use Rattle.std.proofs.lemmas.List.{take_rest}
use Rattle.kiss_layout.specs.declared.KissError.TheVariants.{MalformedKissFrame}
use Rattle.kiss_layout.specs.Unescape.{unescaped}
use Rattle.kiss_layout.specs.Scan.{is_fend, not_fend, stretch, run_of}
use Rattle.kiss_layout.specs.Read.{content_in, payload_at, decoded}
use Rattle.kiss_layout.proofs.Scans.{no_header, header, stretch-found, stretch-none}

-- ---- a payload, found by the number of FENDs at the front and the number n of bytes behind the header up to the next FEND

pub decoded_headless : (f d : List ℕ) {at : ℕ} → at ≡ run_of is_fend f → length f ≤ at → (Err MalformedKissFrame, d) ≡ decoded f d
unfolding decoded
decoded_headless f d e h = sym (ap (λ (l : List ℕ). payload_at l d) (no_header f e h))

module _ (f d behind : List ℕ) {at n : ℕ} (e : at ≡ run_of is_fend f) (h : at + 1 ≤ length f) (b : behind ≡ slice_range f (at + 1) (length f)) (q : n ≡ run_of not_fend behind) where
  rest : behind ≡ drop (at + 1) f
  rest = b ∙ take_rest f (at + 1)

  by-stretch : {o : Option (List ℕ)} → stretch behind ≡ o → content_in o d ≡ decoded f d
  unfolding decoded
  by-stretch s = sym (ap (λ (l : List ℕ). payload_at l d) (header f e (omega arith)) ∙ ap (λ (l : List ℕ). content_in (stretch l) d) (sym rest) ∙ ap (λ (o : Option (List ℕ)). content_in o d) s)

  pub decoded_open : length behind ≤ n → (Err MalformedKissFrame, d) ≡ decoded f d
  decoded_open k = by-stretch (stretch-none behind (rw q at k))

  pub decoded_content : n < length behind → (c : ℕ) (r : List ℕ) → (c, r) ≡ unescaped (take n behind) d → (Ok c, r) ≡ decoded f d
  decoded_content k c r u =
      (λ t. (Ok (u t).0, (u t).1)) ∙ by-stretch (stretch-found behind (rw q at k) ∙ ap (λ (m : ℕ). some (take m behind)) (sym q))
