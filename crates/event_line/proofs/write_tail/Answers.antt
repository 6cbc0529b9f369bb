-- `event_line::write_tail` meets its contract. Assumes nothing.
use Rattle.std.proofs.Common.{ℕ, ◌+◌, ◌*◌, ◌≤◌, ◌≡◌, refl, sym, ap, ◌∙◌, arith}
use mathlib.Core.List.{List, [], ◌∷◌}
use lib.Seq.{sets}
use lib.ListN.{length, set, drop, length-set}
use Rattle.room.proofs.Runs.{put_two}
use Rattle.event_line.specs.Line.{hex_of, stored}
use Rattle.event_line.proofs.Lines.{hex_length, hex_at, hex_done, tail_none, tail_some, tail_stored, tail_long, tail_least}
use Rattle.event_line.proofs.write_tail.Goals as goal

digits : {a b x y : ℕ} {t : List ℕ} → a ≡ x → b ≡ y → x ∷ y ∷ t ≡ a ∷ b ∷ t
digits e f = cc

done : (d d₀ s : List ℕ) (i j at : ℕ) → length s ≤ i → j ≡ at + 2 * length s → sets d j (hex_of (drop i s)) ≡ sets d₀ at (hex_of s) → ◌≡◌ {A = ℕ × List ℕ} (j, d) (at + length (hex_of s), sets d₀ at (hex_of s))
done d d₀ s i j at h e q = let p : sets d j [] ≡ sets d₀ at (hex_of s) = rw (hex_done s i h) at q in let n = hex_length s in both (omega arith) p
  where
    both : {p q : ℕ} {u v : List ℕ} → p ≡ q → u ≡ v → ◌≡◌ {A = ℕ × List ℕ} (p, u) (q, v)
    both g k = cc

pub returns-then-src-eq0 : goal.returns-then-src-eq0
returns-then-src-eq0 c = let a = c.args in ap (λ (t : List ℕ). stored t a.at a.dst.now) (sym (tail_none a.src.now c.if-src-eq0.true))

pub loop-b-init : goal.loop-b-init
loop-b-init c =
    let more : c.args.at + 2 + 2 * length c.args.src.now ≤ length c.args.dst.now = omega (arith, tail_long c.args.src.now c.if-src-eq0.false, c.requires) in
    let a = c.args in (omega arith, rw (length-set a.dst.now a.at 32) (more), refl)

pub loop-b-preserved : goal.loop-b-preserved
loop-b-preserved c =
    let s = c.args.src.now in
    (omega arith, simp length-set (omega arith), put_two c.loop-b.dst c.loop-b.j (hex_at s c.loop-b.b-index (omega arith) ∙ digits c.hex_digit.ensures c.hex_digit-in-loop-b.ensures) c.loop-b.invariant.2)

pub returns : goal.returns
returns c =
    let a = c.args in
    tail_stored a.dst.now a.at c.loop-b.j (hex_of a.src.now) c.loop-b.dst (done c.loop-b.dst (set a.dst.now a.at 32) a.src.now c.loop-b.b-index c.loop-b.j (a.at + 1) c.loop-b-test.false (omega arith) c.loop-b.invariant.2)
    ∙ ap (λ (t : List ℕ). stored t a.at a.dst.now) (sym (tail_some a.src.now c.if-src-eq0.false))

pub bounds-dst-at : goal.bounds-dst-at
bounds-dst-at c = omega (arith, tail_least c.args.src.now, c.requires)

pub bounds-dst-at-2 : goal.bounds-dst-at-2
bounds-dst-at-2 c = omega (arith, tail_least c.args.src.now, c.requires)
