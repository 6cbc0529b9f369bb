-- The laws of `codes` and `lays` that the loops of `unescape` go by. Assumes nothing.
use mathlib.Core.Path.{◌≡◌, refl, sym, ap, ap₂, ◌∙◌}
use mathlib.Core.Bool.{Bool, true, false, ◌||◌}
use mathlib.Core.List.{List, [], ◌∷◌, ◌++◌, map}
use Prim.Native.Nat.{ℕ, zero, suc, ◌+◌, ◌-◌, ◌*◌, ◌/◌, ◌≤◌, ◌<◌, min}
use native.Mathlib.Nat.{add-zero, add-suc, suc-add, le_step}
use native.Mathlib.Numerals.{add-one}
use native.Mathlib.Omega.{arith}
use lib.Dec.{eqb}
use lib.ListN.{length, take, drop, get_or, set, length-append, length-map, length-drop, take-append-drop, drop_of_length-le}
use lib.Seq.{sets, drop-cons, drop-drop, length-take-le, set_out, set-get_or}
use Rattle.choice.specs.Pick.{pick}
use Rattle.std.specs.Simd.{first_chunks}
use Rattle.std.proofs.lemmas.List.{take_rest}
use Rattle.blocks.specs.Block.{stored, without}
use Rattle.blocks.proofs.Blocks.{stored_in, without_first, without_rest}
use Rattle.kiss_layout.specs.Escape.{FEND, FESC, TFEND, TFESC}
use Rattle.kiss_layout.specs.Unescape.{Code, byte, as_found, after_fesc, codes, laid, lay, unescaped}
use Rattle.kiss_layout.proofs.Codes.{after_fesc-known, after_fesc-other, codes_byte, codes_pair, codes_last}
use Rattle.kiss_unescape.specs.Lays.{lays}

-- ---- from index i of a content on

module _ (s : List ℕ) (i : ℕ) where
  pub codes-done : length s ≤ i → codes (drop i s) ≡ []
  unfolding codes
  codes-done h = rw (drop_of_length-le s h)

  pub codes_at_byte : i < length s → (get_or s i 0 ≡ FESC → ⊥) → codes (drop i s) ≡ byte (get_or s i 0) ∷ codes (drop (i + 1) s)
  codes_at_byte h f = rw (add-one, drop-cons s i 0) (codes_byte _ _ f)

  pub codes_at_last : i < length s → get_or s i 0 ≡ FESC → length s ≤ i + 1 → codes (drop i s) ≡ []
  codes_at_last h e k = let k' : length s ≤ suc i = rw add-one at k in rw (drop-cons s i 0, drop_of_length-le s k') (codes_last _ e)

  codes_at_pair : i + 1 < length s → get_or s i 0 ≡ FESC → codes (drop i s) ≡ after_fesc (get_or s (i + 1) 0) ∷ codes (drop (i + 1 + 1) s)
  codes_at_pair h e =
      let h' : suc i < length s = rw add-one at h in
      let h'' : i < length s = omega arith in
      rw (add-one (i + 1), add-one i, drop-cons s i 0 h'', drop-cons s (suc i) 0 h') (codes_pair _ _ _ e)

  pub codes_at_known : {r : ℕ} → i + 1 < length s → get_or s i 0 ≡ FESC → (eqb (get_or s (i + 1) 0) TFEND || eqb (get_or s (i + 1) 0) TFESC) ≡ true
      → r ≡ pick (eqb (get_or s (i + 1) 0) TFEND) FEND FESC → codes (drop i s) ≡ byte r ∷ codes (drop (i + 1 + 1) s)
  codes_at_known h e y f = rw (codes_at_pair h e, after_fesc-known _ y f)

  pub codes_at_other : i + 1 < length s → get_or s i 0 ≡ FESC → (eqb (get_or s (i + 1) 0) TFEND || eqb (get_or s (i + 1) 0) TFESC) ≡ false
      → codes (drop i s) ≡ as_found ∷ codes (drop (i + 1 + 1) s)
  codes_at_other h e y = rw (codes_at_pair h e, after_fesc-other _ y)

-- ---- codes laid one by one, by stores from index j on

lays_nil : (j : ℕ) (cs : List Code) → lays [] j cs ≡ []
lays_nil j [] = refl
lays_nil j (c ∷ cs) = lays_nil (suc j) cs

lays_cons : (r : ℕ) (d : List ℕ) (j : ℕ) (cs : List Code) → lays (r ∷ d) (suc j) cs ≡ r ∷ lays d j cs
lays_cons r d j [] = refl
lays_cons r d j (c ∷ cs) = lays_cons r (set d j (laid c (get_or d j 0))) (suc j) cs

pub lays-lay : (cs : List Code) (d : List ℕ) → lays d 0 cs ≡ lay cs d
unfolding lay
lays-lay [] d = refl
lays-lay (c ∷ cs) [] = lays_nil 1 cs
lays-lay (c ∷ cs) (r ∷ d) = lays_cons (laid c r) d 0 cs ∙ ap (λ (l : List ℕ). laid c r ∷ l) (lays-lay cs d)

pub lays_out : (d : List ℕ) (j : ℕ) (cs : List Code) → length d ≤ j → lays d j cs ≡ d
lays_out d j [] h = refl
lays_out d j (c ∷ cs) h = rw (set_out d j (laid c (get_or d j 0)) h) (lays_out d (suc j) cs (le_step h))

-- one store, and the rest after it
pub lay_byte : (d : List ℕ) (j : ℕ) {b : ℕ} {e t : List Code} {r : List ℕ} → e ≡ byte b ∷ t → lays d j e ≡ r → lays (set d j b) (j + 1) t ≡ r
lay_byte d j q h = rw add-one (rw q at h)

-- no store
pub lay-found : (d : List ℕ) (j : ℕ) {e t : List Code} {r : List ℕ} → e ≡ as_found ∷ t → lays d j e ≡ r → lays d (j + 1) t ≡ r
lay-found d j q h = rw add-one (rw (set-get_or d j 0) at (rw q at h))

-- the count and the room once all codes are laid
pub all_laid : (s d : List ℕ) {n : ℕ} {r : List ℕ} → n ≡ min (length (codes s)) (length d) → r ≡ lays d 0 (codes s) → (n, r) ≡ unescaped s d
unfolding unescaped
all_laid s d e f = let g = f ∙ lays-lay (codes s) d in λ t. (e t, g t)

-- ---- a block with no FESC, n bytes behind the front

codes-plain : (t s : List ℕ) → without FESC t ≡ true → codes (t ++ s) ≡ map byte t ++ codes s
codes-plain [] s f = refl
codes-plain (x ∷ t) s f = codes_byte x (t ++ s) (without_first FESC x t f) ∙ ap (λ (l : List Code). byte x ∷ l) (codes-plain t s (without_rest FESC x t f))

lays_append : (d : List ℕ) (j : ℕ) (t : List ℕ) (e : List Code) → lays d j (map byte t ++ e) ≡ lays (sets d j t) (j + length t) e
lays_append d j [] e = rw add-zero
lays_append d j (x ∷ t) e = rw (add-suc, ← suc-add) (lays_append _ (suc j) t e)

chunk_at : (m k : ℕ) (s : List ℕ) → k < m → get_or (first_chunks 16 m s) k [] ≡ take 16 (drop (k * 16) s)
chunk_at zero k s h = absurd (omega arith)
chunk_at (suc m) zero s h = refl
chunk_at (suc m) (suc k) s h =
    let next : 16 + k * 16 ≡ suc k * 16 = omega arith in
    chunk_at m k (drop 16 s) (omega arith) ∙ ap (take 16) (drop-drop (k * 16) 16 s ∙ ap (λ (n : ℕ). drop n s) next)

pub chunk_in : (s : List ℕ) {bs : List (List ℕ)} (k : ℕ) {n : ℕ} → bs ≡ first_chunks 16 (length s / 16) s → k < length s / 16 → n ≡ k * 16 → get_or bs k [] ≡ take 16 (drop n s)
chunk_in s k e h q = rw (e, q) (chunk_at (length s / 16) k s h)

module _ (s t : List ℕ) (n : ℕ) (e : t ≡ take 16 (drop n s)) (h : n + 16 ≤ length s) {p : Bool} (f : p ≡ without FESC t) (clear : p ≡ true) where
  size : length t ≡ 16
  size = ap length e ∙ length-take-le 16 (drop n s) (omega (arith, length-drop n s))

  codes-left : codes (drop n s) ≡ map byte t ++ codes (drop (n + 16) s)
  codes-left =
      ap codes (sym (take-append-drop 16 (drop n s)) ∙ ap (λ (l : List ℕ). take 16 (drop n s) ++ l) (drop-drop 16 n s) ∙ ap (λ (l : List ℕ). l ++ drop (n + 16) s) (sym e))
      ∙ codes-plain t (drop (n + 16) s) (sym f ∙ clear)

  pub plain-length : length (codes (drop n s)) ≡ 16 + length (codes (drop (n + 16) s))
  plain-length = omega (arith, ap length codes-left, length-append (map byte t) (codes (drop (n + 16) s)), length-map t byte, size)

  pub plain_put : (d d' : List ℕ) (to : ℕ) {r : List ℕ} → d' ≡ stored t d (to + n) → to + n + 16 ≤ length d
      → lays d (to + n) (codes (drop n s)) ≡ r → lays d' (to + (n + 16)) (codes (drop (n + 16) s)) ≡ r
  plain_put d d' to k fit rest =
      let m : to + n + length t ≤ length d = omega (arith, size) in
      let next : to + (n + 16) ≡ to + n + length t = omega (arith, size) in
      ap₂ (λ (x : List ℕ) (a : ℕ). lays x a (codes (drop (n + 16) s))) (stored_in t d (to + n) k m) next
      ∙ sym (lays_append d (to + n) t (codes (drop (n + 16) s)))
      ∙ ap (lays d (to + n)) (sym codes-left)
      ∙ rest

-- blocks copied from index i of a content on, said of the content
pub from_index : (s d d' : List ℕ) (i j n : ℕ) → i ≤ length s
    → (n ≤ length (take (length s - i) (drop i s))) × (j + n ≤ length d) × (n + length (codes (drop n (take (length s - i) (drop i s)))) ≡ length (codes (take (length s - i) (drop i s)))) × (lays d' (j + n) (codes (drop n (take (length s - i) (drop i s)))) ≡ lays d j (codes (take (length s - i) (drop i s))))
    → (i + n ≤ length s) × (j + n ≤ length d) × (n + length (codes (drop (i + n) s)) ≡ length (codes (drop i s))) × (lays d' (j + n) (codes (drop (i + n) s)) ≡ lays d j (codes (drop i s)))
from_index s d d' i j n h e =
    let whole : take (length s - i) (drop i s) ≡ drop i s = take_rest s i in
    let f = rw (whole, drop-drop n i s) at e in
    (omega (arith, f.0, length-drop i s), f.1, f.2, f.3)

-- ---- the bytes that are done one by one

-- there is one, and they go no further than the n bytes of src from i on
pub few_bounds : {n i m j : ℕ} (k : ℕ) → i < n → j < m → k ≡ min (min (n - i) (m - j)) 16 → (1 ≤ k) × (i + k ≤ n)
few_bounds k h g e = (omega arith, omega arith)

-- blocks, and a stop behind them, leave less to do
pub later : (n i i' stop k : ℕ) → i ≤ i' → stop ≤ i → 1 ≤ k → i' + k ≤ n → (n - i') + (n - (i' + k)) < (n - i) + (n - stop)
later n i i' stop k a b c d = omega arith
