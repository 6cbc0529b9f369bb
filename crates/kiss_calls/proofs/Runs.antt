-- Any run of calls: the frames handed out are those of the input, and every input has its run. Assumes nothing.
use mathlib.Core.Path.{◌≡◌, refl, sym, ap, ◌∙◌, subst}
use mathlib.Core.Option.{Option, none, some}
use mathlib.Core.List.{List, [], ◌∷◌, ◌++◌}
use Prim.Native.Nat.{ℕ, zero, suc, ◌≤◌, ◌<◌}
use native.Mathlib.Omega.{arith}
use lib.ListN.{length, take, drop, length-drop}
use Rattle.kiss_reader.specs.Meaning.{frames_of}
use Rattle.kiss_reader.specs.Reader.{Reader, STORE, flush, next, takes, after_write}
use Rattle.std.specs.Prelude.{Ok}
use Rattle.kiss_calls.specs.Calls.{next_answer, written}
use Rattle.kiss_calls.specs.Promises.{Box, new_box, after_written, after_next_frame, Drain, none_left, handed_out, Run, over, write, Sound}
use Rattle.kiss_reader.proofs.Steps.{next_frames, search_frames, Still, still_new, still_after, still_ends, write_frames, still_not_refused, takes-some, next_shorter}
use Rattle.kiss_calls.proofs.Boxes.{reading, new_sound, held_short, next_answer_lem, next-reads, none-answered, some-answered, handed_out_lem, next_sound, next-frame, write_count, write_answer, write_reads, write_sound}

-- ---- frames are taken until none is left

abbrev Taken : Box → List (List ℕ) → Box → Type 0
Taken x fs y = (w : List ℕ) → frames_of (flush (reading x) ++ w) ≡ fs ++ frames_of ((reading y).held ++ w)

-- one frame, then the others
taken_one : (x y : Box) (fs : List (List ℕ)) (f : List ℕ) → Sound x → next (reading x) ≡ some f → Taken (after_next_frame x) fs y
    → Taken x (handed_out_lem x ∷ fs) y
taken_one x y fs f s e t w =
    next_frames (reading x) w f (held_short x s) e
    ∙ ap (λ (r : Reader). f ∷ frames_of (flush r ++ w)) (sym (next-reads x s))
    ∙ rw (next-frame x s f e, t w)

drain_frames : {x y : Box} {fs : List (List ℕ)} → Drain x fs y → Sound x → Taken x fs y
drain_frames (none_left {x} e) s = λ w. search_frames (reading x) w ∙ ap (λ (r : Reader). frames_of (r.held ++ w)) (sym (next-reads x s))
drain_frames (handed_out {x} {y} {n} {fs} e d) s =
    let k = some-answered (next (reading x)) n (sym (next_answer_lem x s) ∙ e) in
    taken_one x y fs k.0 s k.1 (drain_frames d (next_sound x s))

pub drain_still : {x y : Box} {fs : List (List ℕ)} → Drain x fs y → Sound x → Sound y × Still (reading y)
drain_still (none_left {x} e) s =
    (next_sound x s, rw (next-reads x s) (still_after (reading x) (held_short x s) (none-answered (next (reading x)) (sym (next_answer_lem x s) ∙ e))))
drain_still (handed_out {x} e d) s = drain_still d (next_sound x s)

-- ---- a run

-- a write, then what is taken after it, then the rest
run_one : (x y : Box) (w : List ℕ) (fs gs : List (List ℕ)) (k n : ℕ) → (written x.buffer (take n w) x.store).0.answer ≡ Ok k → Sound x → Still (reading x)
    → Taken (after_written x (take n w)) fs y → gs ≡ frames_of ((reading y).held ++ drop k w) → fs ++ gs ≡ frames_of ((reading x).held ++ w)
run_one x y w fs gs k n a s t d e =
    let r : Reader = reading x in
    let o : List ℕ = take n w in
    let c = still_not_refused r t in
    ap (λ (hs : List (List ℕ)). fs ++ hs) e
    ∙ sym (d (drop k w))
    ∙ ap (λ (q : Reader). frames_of (flush q ++ drop k w)) (write_reads x o s c)
    ∙ ap (λ (m : ℕ). frames_of (flush (after_write r o) ++ drop m w)) (write_count x o s c a)
    ∙ sym (write_frames r n w t)

run-from : {x : Box} {w : List ℕ} {out : List (List ℕ)} → Run x w out → Sound x → Still (reading x) → out ≡ frames_of ((reading x).held ++ w)
run-from (over {x}) s t = sym (still_ends (reading x) t)
run-from (write {x} {y} {w} {fs} {gs} {k} n e d rest) s t =
    let a : Sound (after_written x (take n w)) = write_sound x (take n w) s in
    let z = drain_still d a in
    run_one x y w fs gs k n e s t (drain_frames d a) (run-from rest z.0 z.1)

pub run_frames : (store : List ℕ) → length store ≡ STORE → (w : List ℕ) (out : List (List ℕ)) → Run (new_box store) w out → out ≡ frames_of w
run_frames store l w out r = run-from r (new_sound store l) still_new

-- ---- runs end

-- n is more than what is left to search
drains : (n : ℕ) (x : Box) → Sound x → length (flush (reading x)) < n → (fs : List (List ℕ)) × (y : Box) × Drain x fs y
drains zero x s h = absurd (omega arith)
drains (suc n) x s h = by (next (reading x)) refl (drains n (after_next_frame x) (next_sound x s))
  where
    by : (o : Option (List ℕ)) → next (reading x) ≡ o
        → (length (flush (reading (after_next_frame x))) < n → (fs : List (List ℕ)) × (y : Box) × Drain (after_next_frame x) fs y)
        → (fs : List (List ℕ)) × (y : Box) × Drain x fs y
    by none e ih = ([], after_next_frame x, none_left (next_answer_lem x s ∙ ap next_answer e))
    by (some f) e ih =
        let d = ih (rw (next-reads x s) (omega (arith, next_shorter (reading x) f e))) in
        (handed_out_lem x ∷ d.0, d.1, handed_out (next_answer_lem x s ∙ ap next_answer e) d.2)

pub drain_exists : (x : Box) → Sound x → (fs : List (List ℕ)) × (y : Box) × Drain x fs y
drain_exists x s = drains (suc (length (flush (reading x)))) x s (omega arith)

-- n is more than what is left to write; a write is offered all of it
runs : (n : ℕ) (x : Box) (w : List ℕ) → Sound x → Still (reading x) → length w < n → (out : List (List ℕ)) × Run x w out
runs zero x w s t h = absurd (omega arith)
runs (suc n) x [] s t h = ([], over)
runs (suc n) x (b ∷ w) s t h =
    let o : List ℕ = take (length (b ∷ w)) (b ∷ w) in
    let c = still_not_refused (reading x) t in
    let k : ℕ = takes (reading x) o in
    let d = drain_exists (after_written x o) (write_sound x o s) in
    let z = drain_still d.2 (write_sound x o s) in
    let l : 1 ≤ takes (reading x) o = takes-some (reading x) o c (omega arith) in
    let rest = runs n d.1 (drop k (b ∷ w)) z.0 z.1 (omega (arith, l, length-drop k (b ∷ w))) in
    (d.0 ++ rest.0, write {gs = rest.0} (length (b ∷ w)) (write_answer x o s c) d.2 rest.1)

pub run_exists : (store : List ℕ) → length store ≡ STORE → (w : List ℕ) → Run (new_box store) w (frames_of w)
run_exists store l w =
    let r = runs (suc (length w)) (new_box store) w (new_sound store l) still_new (omega arith) in
    subst (λ (out : List (List ℕ)). Run (new_box store) w out) (run_frames store l w r.0 r.1) r.1
