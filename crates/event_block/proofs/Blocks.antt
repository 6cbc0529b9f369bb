-- Laws of one event's turn and of walking over a block. Assumes nothing.
use Prim.Native.Nat.{ℕ, zero, suc, ◌+◌, ◌-◌, ◌<◌, ◌≤◌}
use mathlib.Core.Bool.{Bool, true, false, false≢true}
use mathlib.Core.Path.{◌≡◌, refl, sym, ap, ◌∙◌}
use mathlib.Core.List.{List, [], ◌∷◌}
use native.Mathlib.Numerals.{add-one}
use native.Mathlib.Omega.{arith}
use borrow.Author.Tests.{le-leb, lt-leb, ltb-true, ltb-false}
use lib.Dec.{ltb, leb}
use lib.ListN.{length, get_or, take, drop, length-drop, drop_of_length-le}
use lib.Seq.{drop-cons, drop-drop}
use Rattle.choice.specs.Pick.{pick, and, and_both}
use Rattle.std.specs.Prelude.{Result, ℕ}
use Rattle.event_line.specs.declared.LineError.{LineError}
use Rattle.event_input.specs.declared.Next.{Next}
use Rattle.event_input.specs.declared.Next.TheVariants.{Complete, Cut, Unknown, End}
use Rattle.event_input.specs.Events.{known, body_len, next_at}
use Rattle.event_input.specs.Promises.{Whole}
use Rattle.event_line.proofs.Lines.{written-yes}
use Rattle.event_answer.specs.Answer.{LINE}
use Rattle.event_step.specs.Step.{applied}
use Rattle.event_end.specs.End.{place_after}
use Rattle.event_block.specs.Spot.{Spot, spot, shown, stepped}
use Rattle.event_block.specs.Block.{turned, block, complete, ready, walk}
use Rattle.event_block.proofs.Numbers.{one_digit, line_fits}

-- ---- one event and its line

module _ (k : ℕ) (b : List ℕ) (p : Spot) (fits : p.wrote + LINE ≤ length p.room) where
  steps : stepped k b p ≡ turned k b p
  unfolding stepped turned
  steps =
      let t = applied k b p.world p.bytes in
      ap (λ (u : Result ℕ LineError × List ℕ). spot t.world t.bytes u.1 (place_after u.0 p.wrote)) (sym (written-yes k t.number t.ptt (shown t) p.room p.wrote (one_digit k b p.world p.bytes) (omega (arith, line_fits k t))))

  long : (turned k b p).wrote ≤ p.wrote + LINE
  unfolding turned
  long = omega (arith, line_fits k (applied k b p.world p.bytes))

  pub steps_most : (n : ℕ) → n ≡ (stepped k b p).wrote → n ≤ p.wrote + LINE
  steps_most n e = let f : n ≡ (turned k b p).wrote = e ∙ ap (λ (q : Spot). q.wrote) steps in omega (arith, f, long)

-- ---- walking

pub walk_skip : (n : ℕ) (s : List ℕ) (u : ℕ) (p : Spot) → walk n s u p ≡ walk 0 (drop n s) u p
unfolding walk
walk_skip zero s u p = refl
walk_skip (suc n) [] u p = refl
walk_skip (suc n) (x ∷ s) u p = walk_skip n s u p

pub walk_end : (s : List ℕ) (i u : ℕ) (p : Spot) → length s ≤ i → block u p ≡ walk 0 (drop i s) u p
unfolding walk
walk_end s i u p h = rw (drop_of_length-le s h)

-- one event at the head of a list
pub cons_yes : (k : ℕ) (s : List ℕ) (u : ℕ) (p : Spot) → ready k s p ≡ true → walk 0 (k ∷ s) u p ≡ walk 0 (drop (body_len k) s) (u + 1 + body_len k) (turned k (take (body_len k) s) p)
unfolding walk pick
cons_yes k s u p e = rw e (walk_skip (body_len k) s _ _)

cons_no : (k : ℕ) (s : List ℕ) (u : ℕ) (p : Spot) → ready k s p ≡ false → block u p ≡ walk 0 (k ∷ s) u p
unfolding walk pick
cons_no k s u p e = rw e

module _ (s : List ℕ) (i : ℕ) (p : Spot) (h : i < length s) where
  head : drop i s ≡ get_or s i 0 ∷ drop (i + 1) s
  head = rw (add-one, drop-cons s i 0)

  pub walk_no : ready (get_or s i 0) (drop (i + 1) s) p ≡ false → block i p ≡ walk 0 (drop i s) i p
  walk_no e = cons_no (get_or s i 0) (drop (i + 1) s) i p e ∙ ap (λ (l : List ℕ). walk 0 l i p) (sym head)

  pub walk-yes : ready (get_or s i 0) (drop (i + 1) s) p ≡ true → walk 0 (drop i s) i p ≡ walk 0 (drop (i + 1 + body_len (get_or s i 0)) s) (i + 1 + body_len (get_or s i 0)) (turned (get_or s i 0) (take (body_len (get_or s i 0)) (drop (i + 1) s)) p)
  walk-yes e =
      ap (λ (l : List ℕ). walk 0 l i p) head
      ∙ cons_yes (get_or s i 0) (drop (i + 1) s) i p e
      ∙ ap (λ (l : List ℕ). walk 0 l (i + 1 + body_len (get_or s i 0)) (turned (get_or s i 0) (take (body_len (get_or s i 0)) (drop (i + 1) s)) p)) (drop-drop (body_len (get_or s i 0)) (i + 1) s)

-- no room for a line: nothing is taken, whatever stands there
pub walk-full : (s : List ℕ) (i : ℕ) (p : Spot) → length p.room - p.wrote < LINE → block i p ≡ walk 0 (drop i s) i p
unfolding walk ready pick and
walk-full s i p r = by (drop i s)
  where
    by : (l : List ℕ) → block i p ≡ walk 0 l i p
    by [] = refl
    by (k ∷ l) = rw (lt-leb LINE (length p.room - p.wrote) r)

-- ---- ready or not

pub is_ready : (k : ℕ) (s : List ℕ) (p : Spot) → LINE ≤ length p.room - p.wrote → known k ≡ true → body_len k ≤ length s → ready k s p ≡ true
unfolding ready complete
is_ready k s p a b c = and_both (le-leb _ _ a) (and_both b (le-leb _ _ c))

not-ready : (k : ℕ) (s : List ℕ) (p : Spot) → complete k s ≡ false → ready k s p ≡ false
unfolding ready and
not-ready k s p e = rw e (by (leb LINE (length p.room - p.wrote)))
  where
    by : (b : Bool) → and b false ≡ false
    by true = refl
    by false = refl

not_known : (k : ℕ) (s : List ℕ) → known k ≡ false → complete k s ≡ false
unfolding complete and
not_known k s e = rw e

cut_off : (k : ℕ) (s : List ℕ) → leb (body_len k) (length s) ≡ false → complete k s ≡ false
unfolding complete and
cut_off k s e = rw e (by (known k))
  where
    by : (b : Bool) → and b false ≡ false
    by true = refl
    by false = refl

-- an answer that is not Complete: the walk stops there
unfoldable pub is_whole : Next → Bool
is_whole (Complete k a e) = true
is_whole (Cut k) = false
is_whole (Unknown k) = false
is_whole End = false

pub stops : (s : List ℕ) (i : ℕ) (p : Spot) → is_whole (next_at s i) ≡ false → block i p ≡ walk 0 (drop i s) i p
unfolding next_at pick is_whole
stops s i p = by (ltb i (length s)) refl (known (get_or s i 0)) refl (leb (body_len (get_or s i 0)) (length s - (i + 1))) refl
  where
    by : (x : Bool) → ltb i (length s) ≡ x → (y : Bool) → known (get_or s i 0) ≡ y → (z : Bool) → leb (body_len (get_or s i 0)) (length s - (i + 1)) ≡ z
        → is_whole (pick x (pick y (pick z (Complete (get_or s i 0) (i + 1) (i + 1 + body_len (get_or s i 0))) (Cut (get_or s i 0))) (Unknown (get_or s i 0))) End) ≡ false → block i p ≡ walk 0 (drop i s) i p
    by true ex true ey true ez q = absurd (false≢true (sym q))
    by true ex true ey false ez q = walk_no s i p (ltb-true _ _ ex) (not-ready (get_or s i 0) (drop (i + 1) s) p (cut_off (get_or s i 0) (drop (i + 1) s) (ap (leb (body_len (get_or s i 0))) (length-drop (i + 1) s) ∙ ez)))
    by true ex false ey z ez q = walk_no s i p (ltb-true _ _ ex) (not-ready (get_or s i 0) (drop (i + 1) s) p (not_known (get_or s i 0) (drop (i + 1) s) ey))
    by false ex y ey z ez q = walk_end s i i p (ltb-false _ _ ex)

-- ---- one turn of the block's loop

pub on : (s : List ℕ) (i k a e : ℕ) (p q : Spot) → Whole s i k a e → LINE ≤ length p.room - p.wrote → p.wrote ≤ length p.room → q ≡ stepped k (take (e - a) (drop a s)) p → walk 0 (drop e s) e q ≡ walk 0 (drop i s) i p
on s i k a e p q w room held f =
    let len : e - a ≡ body_len (get_or s i 0) = omega (arith, w.ends, w.starts) in
    let rest : length (drop (i + 1) s) ≡ length s - (i + 1) = length-drop (i + 1) s in
    let fits : body_len (get_or s i 0) ≤ length (drop (i + 1) s) = omega (arith, w.ends, w.within, rest) in
    let go : ready (get_or s i 0) (drop (i + 1) s) p ≡ true = is_ready (get_or s i 0) (drop (i + 1) s) p room w.is_known fits in
    let g : q ≡ turned (get_or s i 0) (take (body_len (get_or s i 0)) (drop (i + 1) s)) p = f ∙ steps k (take (e - a) (drop a s)) p (omega (arith, room, held)) ∙ rw (len, w.kind_is, w.starts) in
    rw (w.ends, g) (sym (walk-yes s i p w.inside go))
