-- Blocks of sixteen bytes: what is left to escape and to store behind one, and one of which no byte is to be escaped. Assumes nothing.
use mathlib.Core.Path.{◌≡◌, refl, sym, ap, ◌∙◌}
use mathlib.Core.Bool.{Bool, true, false, ◌&&◌, false≢true}
use mathlib.Core.List.{List, [], ◌∷◌, ◌++◌}
use Prim.Native.Nat.{ℕ, zero, suc, ◌+◌, ◌*◌, ◌/◌, ◌<◌}
use native.Mathlib.Omega.{arith}
use lib.ListN.{length, take, drop, get_or, length-append, take-append-drop}
use lib.Seq.{sets, drop-drop}
use Rattle.std.specs.Simd.{first_chunks}
use Rattle.blocks.specs.Block.{without}
use Rattle.blocks.proofs.Blocks.{without_first, without_rest}
use Rattle.room.proofs.Runs.{sets_append}
use Rattle.kiss_layout.specs.Escape.{FEND, FESC, esc}
use Rattle.kiss_layout.proofs.Escapes.{esc_byte-other, esc_append}

-- ---- a block with nothing to escape

esc-plain : (t : List ℕ) → without FEND t ≡ true → without FESC t ≡ true → esc t ≡ t
unfolding esc
esc-plain [] f g = refl
esc-plain (x ∷ t) f g =
    rw (esc_byte-other x (without_first FEND x t f) (without_first FESC x t g))
    (ap (λ (l : List ℕ). x ∷ l) (esc-plain t (without_rest FEND x t f) (without_rest FESC x t g)))

left : (p q : Bool) → (p && q) ≡ true → p ≡ true
left true q e = refl
left false q e = e

right : (p q : Bool) → (p && q) ≡ true → q ≡ true
right true q e = e
right false q e = absurd (false≢true e)

-- both tests of it held
pub plain_block : (t : List ℕ) (p q : Bool) → p ≡ without FEND t → q ≡ without FESC t → (p && q) ≡ true → esc t ≡ t
plain_block t p q f g both = esc-plain t (sym f ∙ left p q both) (sym g ∙ right p q both)

-- ---- the blocks of a list

chunk_at : (m k : ℕ) (s : List ℕ) → k < m → get_or (first_chunks 16 m s) k [] ≡ take 16 (drop (k * 16) s)
chunk_at zero k s h = absurd (omega arith)
chunk_at (suc m) zero s h = refl
chunk_at (suc m) (suc k) s h =
    let next : 16 + k * 16 ≡ suc k * 16 = omega arith in
    chunk_at m k (drop 16 s) (omega arith) ∙ ap (take 16) (drop-drop (k * 16) 16 s ∙ ap (λ (n : ℕ). drop n s) next)

module _ (s : List ℕ) (bs : List (List ℕ)) (k : ℕ) (e : bs ≡ first_chunks 16 (length s / 16) s) (h : k < length s / 16) where
  esc_left : esc (drop (k * 16) s) ≡ esc (get_or bs k []) ++ esc (drop ((k + 1) * 16) s)
  esc_left =
      let next : k * 16 + 16 ≡ (k + 1) * 16 = omega arith in
      ap esc (sym (take-append-drop 16 (drop (k * 16) s)))
      ∙ esc_append (take 16 (drop (k * 16) s)) (drop 16 (drop (k * 16) s))
      ∙ ap (λ (t : List ℕ). esc (take 16 (drop (k * 16) s)) ++ esc t) (drop-drop 16 (k * 16) s ∙ ap (λ (n : ℕ). drop n s) next)
      ∙ ap (λ (t : List ℕ). esc t ++ esc (drop ((k + 1) * 16) s)) (sym (ap (λ (l : List (List ℕ)). get_or l k []) e ∙ chunk_at (length s / 16) k s h))

  pub block-length : length (esc (drop (k * 16) s)) ≡ length (esc (get_or bs k [])) + length (esc (drop ((k + 1) * 16) s))
  block-length = ap length esc_left ∙ length-append (esc (get_or bs k [])) (esc (drop ((k + 1) * 16) s))

  pub block_put : (d : List ℕ) (j : ℕ) {d' : List ℕ} {j' : ℕ} {r : List ℕ} → d' ≡ sets d j (esc (get_or bs k [])) → j' ≡ j + length (esc (get_or bs k []))
      → sets d j (esc (drop (k * 16) s)) ≡ r → sets d' j' (esc (drop ((k + 1) * 16) s)) ≡ r
  block_put d j p q rest =
      rw (p, q) (sym (sets_append d j (esc (get_or bs k [])) (esc (drop ((k + 1) * 16) s))) ∙ ap (sets d j) (sym esc_left) ∙ rest)
