-- What a block leaves is what the whole input still asks: cutting the input into blocks changes nothing. Assumes nothing.
use Prim.Native.Nat.{ℕ, zero, suc, ◌+◌, ◌-◌, ◌<◌, ◌≤◌}
use mathlib.Core.Bool.{Bool, true, false}
use mathlib.Core.Path.{◌≡◌, refl, sym, ap, ◌∙◌}
use mathlib.Core.List.{List, [], ◌∷◌, ◌++◌, append_assoc}
use native.Mathlib.Numerals.{add-one}
use native.Mathlib.Omega.{arith}
use borrow.Author.Tests.{le-leb, ltb-true, ltb-false, leb-true}
use lib.Dec.{ltb, leb}
use lib.ListN.{length, get_or, take, drop, length-drop, length-append, get_or-append}
use lib.Seq.{sets, sets-eq, drop-cons, drop-drop, drop-append-le, take-append-le, take_at, length-take-le}
use Rattle.choice.specs.Pick.{pick, and, and_both, and_fst, and_snd, pick_all}
use Rattle.any_calls.specs.Calls.{World}
use Rattle.event_input.specs.Events.{known, body_len}
use Rattle.event_answer.specs.Answer.{LINE}
use Rattle.event_step.specs.Step.{Turn, applied}
use Rattle.event_block.specs.Spot.{Spot, spot}
use Rattle.event_block.specs.Block.{line_for, turned, Block, block, complete, ready, walk, block_run, refusal}
use Rattle.event_block.specs.Promises.{printed, opens, Runs, ends, turns, CutsChangeNothing, RunIsItsEvents}
use Rattle.event_block.proofs.Numbers.{line_fits}
use Rattle.event_block.proofs.Opens.{open_walks}
use Rattle.event_block.proofs.Blocks.{walk_end, walk_no, walk-yes}

printed_skip : (n : ℕ) (s : List ℕ) (w : World) (room : List ℕ) → printed n s w room ≡ printed 0 (drop n s) w room
unfolding printed
printed_skip zero s w room = refl
printed_skip (suc n) [] w room = refl
printed_skip (suc n) (x ∷ s) w room = printed_skip n s w room

-- an event's line, and what follows it
abbrev shows : ℕ → Turn → List ℕ → List ℕ
shows k t s = line_for k t ++ printed 0 s t.world t.bytes

cons_prints : (k : ℕ) (s : List ℕ) (w : World) (room : List ℕ) → complete k s ≡ true → printed 0 (k ∷ s) w room ≡ shows k (applied k (take (body_len k) s) w room) (drop (body_len k) s)
unfolding printed pick
cons_prints k s w room e = rw e (ap (λ (l : List ℕ). line_for k (applied k (take (body_len k) s) w room) ++ l) (printed_skip (body_len k) s _ _))

-- the event at i of an input whose first part has it whole
at_prints : (s more : List ℕ) (i : ℕ) (w : World) (room : List ℕ) → i < length s → known (get_or s i 0) ≡ true → body_len (get_or s i 0) ≤ length (drop (i + 1) s)
    → printed 0 (drop i (s ++ more)) w room ≡ shows (get_or s i 0) (applied (get_or s i 0) (take (body_len (get_or s i 0)) (drop (i + 1) s)) w room) (drop (i + 1 + body_len (get_or s i 0)) (s ++ more))
unfolding complete
at_prints s more i w room h is_Known fits =
    let k : ℕ = get_or s i 0 in
    let f : body_len k ≤ length (drop (i + 1) s) = fits in
    let la : length (s ++ more) ≡ length s + length more = length-append s more in
    let ld : length (drop (i + 1) s) ≡ length s - (i + 1) = length-drop (i + 1) s in
    let le : length (drop (i + 1) (s ++ more)) ≡ length (s ++ more) - (i + 1) = length-drop (i + 1) (s ++ more) in
    let hh : i < length (s ++ more) = omega arith in
    let ek : get_or (s ++ more) i 0 ≡ k = get_or-append s more 0 i h in
    let head : drop i (s ++ more) ≡ k ∷ drop (i + 1) (s ++ more) = rw (drop-cons (s ++ more) i 0 hh, ek, add-one i) in
    let ok : complete k (drop (i + 1) (s ++ more)) ≡ true = and_both is_Known (le-leb (body_len k) (length (drop (i + 1) (s ++ more))) (omega (arith, f, la, ld, le))) in
    let body : take (body_len k) (drop (i + 1) (s ++ more)) ≡ take (body_len k) (drop (i + 1) s) =
    ap (take (body_len k)) (drop-append-le (i + 1) s more (omega arith)) ∙ take-append-le (body_len k) (drop (i + 1) s) more f in
    ap (λ (l : List ℕ). printed 0 l w room) head
    ∙ cons_prints k (drop (i + 1) (s ++ more)) w room ok
    ∙ ap (λ (b : List ℕ). shows k (applied k b w room) (drop (body_len k) (drop (i + 1) (s ++ more)))) body
    ∙ ap (λ (l : List ℕ). shows k (applied k (take (body_len k) (drop (i + 1) s)) w room) l) (drop-drop (body_len k) (i + 1) (s ++ more))

-- a line written behind what was written
take_more : (d l : List ℕ) (n : ℕ) → n + length l ≤ length d → take (n + length l) (sets d n l) ≡ take n d ++ l
take_more d l n h =
    let p : length (take n d ++ l) ≡ n + length l = length-append (take n d) l ∙ ap (λ (x : ℕ). x + length l) (length-take-le n d (omega arith)) in
    rw (sets-eq l d n h) (take_at (take n d ++ l) (drop (n + length l) d) (n + length l) p)

-- what was written up to a place, and what the rest of the input prints
abbrev total : List ℕ → ℕ → Spot → List ℕ
total s i p = take p.wrote p.room ++ printed 0 (drop i s) p.world p.bytes

-- one turn keeps the total
turn_total : (s more : List ℕ) (i : ℕ) (p : Spot) → i < length s → known (get_or s i 0) ≡ true → body_len (get_or s i 0) ≤ length (drop (i + 1) s) → LINE ≤ length p.room - p.wrote
    → total (s ++ more) i p ≡ total (s ++ more) (i + 1 + body_len (get_or s i 0)) (turned (get_or s i 0) (take (body_len (get_or s i 0)) (drop (i + 1) s)) p)
unfolding turned
turn_total s more i p h is_Known fits room =
    let k : ℕ = get_or s i 0 in
    let t : Turn = applied k (take (body_len k) (drop (i + 1) s)) p.world p.bytes in
    ap (λ (l : List ℕ). take p.wrote p.room ++ l) (at_prints s more i p.world p.bytes h is_Known fits)
    ∙ sym (append_assoc (take p.wrote p.room) (line_for k t) _)
    ∙ ap (λ (l : List ℕ). l ++ printed 0 (drop (i + 1 + body_len k) (s ++ more)) t.world t.bytes) (sym (take_more p.room (line_for k t) p.wrote (omega (arith, line_fits k t))))

-- a step of the theorem, with the theorem at the rest handed in
Holds : List ℕ → List ℕ → ℕ → Spot → Type 0
Holds s more i p = total (s ++ more) i p ≡ total (s ++ more) (walk 0 (drop i s) i p).used (walk 0 (drop i s) i p).left

stop_total : (s more : List ℕ) (i : ℕ) (p : Spot) → block i p ≡ walk 0 (drop i s) i p → Holds s more i p
unfolding Holds
stop_total s more i p e = ap (λ (b : Block). total (s ++ more) b.used b.left) e

step_total : (s more : List ℕ) (i : ℕ) (p : Spot) → (i < length s → (q : Spot) → Holds s more (i + 1 + body_len (get_or s i 0)) q) → Holds s more i p
unfolding Holds ready complete
step_total s more i p ih = by (ltb i (length s)) refl (ready (get_or s i 0) (drop (i + 1) s) p) refl
  where
    by : (x : Bool) → ltb i (length s) ≡ x → (y : Bool) → ready (get_or s i 0) (drop (i + 1) s) p ≡ y → Holds s more i p
    by false ex y ey = stop_total s more i p (walk_end s i i p (ltb-false _ _ ex))
    by true ex false ey = stop_total s more i p (walk_no s i p (ltb-true _ _ ex) ey)
    by true ex true ey =
        let h : i < length s = ltb-true _ _ ex in
        let k : ℕ = get_or s i 0 in
        let room = leb-true LINE (length p.room - p.wrote) (and_fst _ _ ey) in
        let rest = and_snd (leb LINE (length p.room - p.wrote)) (and (known k) (leb (body_len k) (length (drop (i + 1) s)))) ey in
        let fits = leb-true (body_len k) (length (drop (i + 1) s)) (and_snd (known k) _ rest) in
        turn_total s more i p h (and_fst _ _ rest) fits room
        ∙ ih h (turned k (take (body_len k) (drop (i + 1) s)) p)
        ∙ ap (λ (b : Block). total (s ++ more) b.used b.left) (sym (walk-yes s i p h ey))

by_fuel : (f : ℕ) (s more : List ℕ) (i : ℕ) (p : Spot) → length s - i ≤ f → Holds s more i p
by_fuel zero s more i p fuel = step_total s more i p (λ h q. absurd (omega arith))
by_fuel (suc f) s more i p fuel = step_total s more i p (λ h q. by_fuel f s more (i + 1 + body_len (get_or s i 0)) q (omega arith))

-- whatever follows a block, what its turns have written and what is printed from where they stopped is what is printed from where they began
block_total : (s more : List ℕ) (p : Spot) → total (s ++ more) 0 p ≡ total (s ++ more) (block_run s p).used (block_run s p).left
unfolding Holds block_run
block_total s more p =
    pick_all (λ (b : Block). total (s ++ more) 0 p ≡ total (s ++ more) b.used b.left) _ _ _ (λ e. by_fuel (length s) s more 0 p (omega arith)) (λ e. refl)

run_prints : {s : List ℕ} {w : World} {room out : List ℕ} → Runs s w room out → out ≡ printed 0 s w room
unfolding printed refusal opens pick
run_prints (ends [] w room e) = refl
run_prints (ends (k ∷ s) w room e) = rw e
run_prints (turns s more d out w room r) =
    let b : Block = block_run s (spot w room d 0) in
    ap (λ (l : List ℕ). take b.left.wrote b.left.room ++ l) (run_prints r) ∙ sym (block_total s more (spot w room d 0))

pub cuts_change_nothing : CutsChangeNothing
cuts_change_nothing s w room out r = run_prints r

pub run_is_its_events : RunIsItsEvents
run_is_its_events x s at d n reader packets streams rx message bytes h = open_walks x s at d n reader packets streams rx message bytes h refl
