-- Laws of hex and of lines. Assumes nothing.
use borrow.Rule.Slice.PartMut.{put_mid}
use Prim.Native.Nat.{ℕ, suc, ◌+◌, ◌*◌, ◌/◌, ◌%◌, ◌<◌, ◌≤◌}
use mathlib.Core.Bool.{Bool, true, false}
use mathlib.Core.Path.{◌≡◌, refl, sym, ap, ◌∙◌}
use mathlib.Core.List.{List, [], ◌∷◌, ◌++◌, append_assoc}
use mir.Val.{bool_byte}
use native.Mathlib.Numerals.{add-one}
use native.Mathlib.Omega.{arith}
use borrow.Author.Tests.{le-leb, lt-leb, ne_eqb}
use lib.Dec.{leb}
use lib.ListN.{length, get_or, set, drop, take, length-append, drop_of_length-le}
use lib.Seq.{sets, sets-eq, drop-cons, drop-drop}
use Rattle.choice.specs.Pick.{pick}
use Rattle.room.proofs.Runs.{sets_append}
use Rattle.std.specs.Prelude.{Err, Ok}
use Rattle.event_line.specs.declared.LineError.TheVariants.{NumberOver9, NoRoom}
use Rattle.event_line.specs.Line.{hex_digit, hex_of, flag, tail_of, line_of, stored, fits, written}

pub hex_length : (s : List ℕ) → length (hex_of s) ≡ 2 * length s
unfolding hex_of
hex_length [] = refl
hex_length (b ∷ s) = omega (arith, hex_length s)

pub hex_at : (s : List ℕ) (i : ℕ) → i < length s → hex_of (drop i s) ≡ hex_digit (get_or s i 0 / 16) ∷ hex_digit (get_or s i 0 % 16) ∷ hex_of (drop (i + 1) s)
unfolding hex_of
hex_at s i h = rw (add-one, drop-cons s i 0)

pub hex_done : (s : List ℕ) (i : ℕ) → length s ≤ i → hex_of (drop i s) ≡ []
unfolding hex_of
hex_done s i h = rw (drop_of_length-le s h)

-- ---- a line in stores

-- a bool is 1 or 0 as a number
pub one_most : (on : Bool) → bool_byte on ≤ 1
one_most true = omega arith
one_most false = omega arith

pub flag_is : (on : Bool) → 48 + bool_byte on ≡ flag on
unfolding flag pick
flag_is true = refl
flag_is false = refl

pub tail_none : (bs : List ℕ) → length bs ≡ 0 → tail_of bs ≡ 10 ∷ []
unfolding tail_of
tail_none [] h = refl
tail_none (b ∷ bs) h = absurd (omega arith)

pub tail_some : (bs : List ℕ) → (length bs ≡ 0 → ⊥) → tail_of bs ≡ 32 ∷ (hex_of bs ++ (10 ∷ []))
unfolding tail_of
tail_some [] h = absurd (h refl)
tail_some (b ∷ bs) h = refl

-- what stands in a line
pub line_is : (k n : ℕ) (ptt : Bool) (bs : List ℕ) (a b f : ℕ) → a ≡ hex_digit (k / 16) → b ≡ hex_digit (k % 16) → f ≡ flag ptt → a ∷ b ∷ 32 ∷ (48 + n) ∷ 32 ∷ f ∷ tail_of bs ≡ line_of k n ptt bs
unfolding line_of hex_of
line_is k n ptt bs a b f ea eb ef = rw (ea, eb, ef)

both : {p q : ℕ} {u v : List ℕ} → p ≡ q → u ≡ v → ◌≡◌ {A = ℕ × List ℕ} (p, u) (q, v)
both g k = cc

-- the six bytes that every line begins with
abbrev pub front : ℕ → ℕ → ℕ → ℕ → List ℕ
front a b m f = a ∷ b ∷ 32 ∷ m ∷ 32 ∷ f ∷ []

-- a part that was lent and comes back as long as it was
pub part_stored : (a k : ℕ) (d v : List ℕ) → a + k ≤ length d → length v ≡ k → put_mid a k d v ≡ sets d a v
part_stored a k d v h e =
    ap (λ (m : ℕ). take a d ++ (v ++ drop m (drop a d))) (sym e)
    ∙ ap (λ (l : List ℕ). take a d ++ (v ++ l)) (drop-drop (length v) a d)
    ∙ sym (append_assoc (take a d) v (drop (a + length v) d))
    ∙ sym (sets-eq v d a (omega arith))

pub line_stored : (d e : List ℕ) (at z : ℕ) (l t x : List ℕ) (a b m f : ℕ) → e ≡ sets d at (front a b m f) → a ∷ b ∷ 32 ∷ m ∷ 32 ∷ f ∷ t ≡ l → ◌≡◌ {A = ℕ × List ℕ} (z, x) (stored t (at + 6) e) → ◌≡◌ {A = ℕ × List ℕ} (z, x) (stored l at d)
line_stored d e at z l t x a b m f q r w =
    let ez : z ≡ at + 6 + length t = ap (λ (u : ℕ × List ℕ). u.0) w in
    let ex : x ≡ sets e (at + 6) t = ap (λ (u : ℕ × List ℕ). u.1) w in
    let long : z ≡ at + length (a ∷ b ∷ 32 ∷ m ∷ 32 ∷ f ∷ t) = omega arith in
    both (long ∙ ap (λ (y : List ℕ). at + length y) r) (ex ∙ ap (λ (y : List ℕ). sets y (at + 6) t) q ∙ sym (sets_append d at (front a b m f) t) ∙ ap (sets d at) r)

pub tail_stored : (e : List ℕ) (at z : ℕ) (h x : List ℕ) → ◌≡◌ {A = ℕ × List ℕ} (z, x) (stored h (at + 1) (set e at 32)) → ◌≡◌ {A = ℕ × List ℕ} (z + 1, set x z 10) (stored (32 ∷ (h ++ (10 ∷ []))) at e)
tail_stored e at z h x w =
    let p1 : at + 1 ≡ suc at = omega arith in
    let ez : z ≡ at + 1 + length h = ap (λ (u : ℕ × List ℕ). u.0) w in
    let ex : x ≡ sets (set e at 32) (at + 1) h = ap (λ (u : ℕ × List ℕ). u.1) w in
    let stores : set x z 10 ≡ sets e at (32 ∷ (h ++ (10 ∷ []))) =
    (λ j. set (ex j) (ez j) 10) ∙ sym (sets_append (set e at 32) (at + 1) h (10 ∷ [])) ∙ ap (λ (k : ℕ). sets (set e at 32) k (h ++ (10 ∷ []))) p1 in
    let long : z + 1 ≡ at + length (32 ∷ (h ++ (10 ∷ []))) = omega (arith, length-append h (10 ∷ [])) in
    both long stores

-- ---- how long a line is

pub tail_long : (bs : List ℕ) → (length bs ≡ 0 → ⊥) → length (tail_of bs) ≡ 2 + 2 * length bs
tail_long bs h = rw (tail_some bs h) (omega (arith, length-append (hex_of bs) (10 ∷ []), hex_length bs))

pub tail_least : (bs : List ℕ) → 1 ≤ length (tail_of bs)
tail_least [] = rw (tail_none [] refl) (omega arith)
tail_least (b ∷ bs) = omega (arith, tail_long (b ∷ bs) (λ e. absurd (omega arith)))

pub line_long : (k n : ℕ) (ptt : Bool) (bs : List ℕ) → length (line_of k n ptt bs) ≡ 6 + length (tail_of bs)
unfolding line_of hex_of
line_long k n ptt bs = omega arith

pub line_none_long : (k n : ℕ) (ptt : Bool) (bs : List ℕ) → length bs ≡ 0 → length (line_of k n ptt bs) ≡ 7
unfolding line_of hex_of
line_none_long k n ptt bs h = rw (tail_none bs h)

pub line_some_long : (k n : ℕ) (ptt : Bool) (bs : List ℕ) → (length bs ≡ 0 → ⊥) → length (line_of k n ptt bs) ≡ 8 + 2 * length bs
unfolding line_of hex_of
line_some_long k n ptt bs h = rw (tail_some bs h) (omega (arith, length-append (hex_of bs) (10 ∷ []), hex_length bs))

pub line_most : (k n : ℕ) (ptt : Bool) (bs : List ℕ) → length (line_of k n ptt bs) ≤ 8 + 2 * length bs
line_most k n ptt [] = omega (arith, line_none_long k n ptt [] refl)
line_most k n ptt (b ∷ bs) = omega (arith, line_some_long k n ptt (b ∷ bs) (λ e. absurd (omega arith)))

pub line_least : (k n : ℕ) (ptt : Bool) (bs : List ℕ) → 7 ≤ length (line_of k n ptt bs)
line_least k n ptt [] = omega (arith, line_none_long k n ptt [] refl)
line_least k n ptt (b ∷ bs) = omega (arith, line_some_long k n ptt (b ∷ bs) (λ e. absurd (omega arith)))

pub fits_line : (k n : ℕ) (ptt : Bool) (bs : List ℕ) (room : ℕ) → fits (length bs) room ≡ leb (length (line_of k n ptt bs)) room
unfolding fits pick
fits_line k n ptt [] room = rw (line_none_long k n ptt [] refl)
fits_line k n ptt (b ∷ bs) room =
    let some : length (b ∷ bs) ≡ 0 → ⊥ = λ e. absurd (omega arith) in rw (line_some_long k n ptt (b ∷ bs) some, ne_eqb (length (b ∷ bs)) 0 some)

-- ---- the answers of `put_line`

module _ (k n : ℕ) (ptt : Bool) (bs d : List ℕ) (at : ℕ) where
  pub written_over : 9 < n → ((Err NumberOver9), d) ≡ written k n ptt bs d at
  unfolding written pick
  written_over h = rw (lt-leb n 9 h)

  pub written_no : n ≤ 9 → length d < at + length (line_of k n ptt bs) → ((Err NoRoom), d) ≡ written k n ptt bs d at
  unfolding written pick
  written_no h g = rw (le-leb n 9 h, lt-leb (at + length (line_of k n ptt bs)) (length d) g)

  pub written-yes : n ≤ 9 → at + length (line_of k n ptt bs) ≤ length d → (Ok (at + length (line_of k n ptt bs)), sets d at (line_of k n ptt bs)) ≡ written k n ptt bs d at
  unfolding written pick
  written-yes h g = rw (le-leb n 9 h, le-leb (at + length (line_of k n ptt bs)) (length d) g, sets-eq (line_of k n ptt bs) d at g)
