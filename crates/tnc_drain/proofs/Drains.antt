-- Frames are taken until none is left: what one call of the reader's `next_frame` says of the frames that it holds. Assumes nothing.
use Prim.Native.Nat.{ℕ, ◌<◌}
use mathlib.Core.Bool.{true, false, false≢true}
use mathlib.Core.Path.{◌≡◌, refl, sym, ap, ◌∙◌, subst}
use mathlib.Core.Option.{Option, none, some}
use mathlib.Core.List.{List, [], ◌∷◌, append-nil}
use lib.ListN.{length}
use Rattle.kiss_reader.specs.Meaning.{frames_of}
use Rattle.kiss_reader.specs.Reader.{Reader, flush, is_some, next, after_next}
use Rattle.kiss_calls.specs.Calls.{frame_in}
use Rattle.kiss_calls.specs.Promises.{Box as ReaderBox, after_next_frame, Drain, none_left, handed_out, Sound}
use Rattle.kiss_reader.proofs.Steps.{next_frames, search_frames, still_after, still_ends, next_shorter}
use Rattle.kiss_calls.proofs.Boxes.{reading, held_short, next_answer_lem, next-reads, none-answered, some-answered, next_sound, next-frame}
use Rattle.host_frame.specs.Promises.{Box as HostBox, after}
use Rattle.tnc_drain.specs.declared.Drained.{Drained}
use Rattle.tnc_drain.specs.Drain.{frames_held, passed, all_taken, drained}

-- how many bytes there are to search
abbrev pub searched : ReaderBox → ℕ
searched x = length (flush (reading x))

is_none : (o : Option (List ℕ)) → is_some o ≡ false → o ≡ none
is_none none e = refl
is_none (some f) e = absurd (false≢true (sym e))

is_some_lem : (o : Option (List ℕ)) → is_some o ≡ true → (f : List ℕ) × (o ≡ some f)
is_some_lem none e = absurd (false≢true e)
is_some_lem (some f) e = (f, refl)

module _ (x : ReaderBox) (s : Sound x) where
  -- the mark says whether a frame was found
  mark : (after_next_frame x).buffer.taken ≡ is_some (next (reading x))
  unfolding after_next
  mark = ap (λ (r : Reader). r.taken) (next-reads x s)

  none_held : (after_next_frame x).buffer.taken ≡ false → frames_held x ≡ []
  unfolding frames_held
  none_held e =
      ap frames_of (sym (append-nil (flush (reading x))))
      ∙ search_frames (reading x) []
      ∙ still_ends (after_next (reading x)) (still_after (reading x) (held_short x s) (is_none (next (reading x)) (sym mark ∙ e)))

  one_held : (after_next_frame x).buffer.taken ≡ true → frames_held x ≡ frame_in (after_next_frame x).buffer (after_next_frame x).store ∷ frames_held (after_next_frame x)
  unfolding frames_held
  one_held e =
      let k = is_some_lem (next (reading x)) (sym mark ∙ e) in
      ap frames_of (sym (append-nil (flush (reading x))))
      ∙ next_frames (reading x) [] k.0 (held_short x s) k.1
      ∙ ap {B = List (List ℕ)} (λ (h : List ℕ). k.0 ∷ frames_of h) (append-nil (flush (after_next (reading x))))
      ∙ (λ t. sym (next-frame x s k.0 k.1) t ∷ frames_of (flush (sym (next-reads x s) t)))

  shorter : (after_next_frame x).buffer.taken ≡ true → searched (after_next_frame x) < searched x
  shorter e =
      let k = is_some_lem (next (reading x)) (sym mark ∙ e) in
      subst (λ (r : Reader). length (flush r) < searched x) (sym (next-reads x s)) (next_shorter (reading x) k.0 k.1)

  drained_end : (w : HostBox) → (after_next_frame x).buffer.taken ≡ false
      → (record { buffer = (after_next_frame x).buffer; host = w.host }, (after_next_frame x).store, w.packets, w.streams) ≡ drained x w
  unfolding drained passed all_taken
  drained_end w e = rw (none_held e)

  drained_on : (w : HostBox) → (after_next_frame x).buffer.taken ≡ true
      → drained x w ≡ drained (after_next_frame x) (after w (frame_in (after_next_frame x).buffer (after_next_frame x).store))
  unfolding drained passed all_taken
  drained_on w e = rw (one_held e)

-- the same of any box that is what the call left
module _ (x y : ReaderBox) (q : y ≡ after_next_frame x) (s : Sound x) where
  pub then_sound : Sound y
  then_sound = subst Sound (sym q) (next_sound x s)

  pub then_shorter : y.buffer.taken ≡ true → searched y < searched x
  then_shorter e = subst (λ (z : ReaderBox). searched z < searched x) (sym q) (shorter x s (sym (ap (λ (z : ReaderBox). z.buffer.taken) q) ∙ e))

  pub then_ends : (w : HostBox) → y.buffer.taken ≡ false → (record { buffer = y.buffer; host = w.host }, y.store, w.packets, w.streams) ≡ drained x w
  then_ends w e =
      ap {B = Drained × List ℕ × List ℕ × List ℕ} (λ (z : ReaderBox). (record { buffer = z.buffer; host = w.host }, z.store, w.packets, w.streams)) q
      ∙ drained_end x s w (sym (ap (λ (z : ReaderBox). z.buffer.taken) q) ∙ e)

  pub then_goes_on : (w : HostBox) → y.buffer.taken ≡ true → drained x w ≡ drained y (after w (frame_in y.buffer y.store))
  then_goes_on w e =
      drained_on x s w (sym (ap (λ (z : ReaderBox). z.buffer.taken) q) ∙ e)
      ∙ ap (λ (z : ReaderBox). drained z (after w (frame_in z.buffer z.store))) (sym q)

-- the frames of a drain are those that were held, and it ends where they were all passed
drain_is : {x y : ReaderBox} {fs : List (List ℕ)} → Drain x fs y → Sound x → (frames_held x ≡ fs) × (passed fs x ≡ y)
unfolding passed
drain_is (none_left {x} e) s = (none_held x s (mark x s ∙ ap is_some (none-answered (next (reading x)) (sym (next_answer_lem x s) ∙ e))), refl)
drain_is (handed_out {x} {y} {n} {fs} e d) s =
    let k = some-answered (next (reading x)) n (sym (next_answer_lem x s) ∙ e) in let r = drain_is d (next_sound x s) in
    (one_held x s (mark x s ∙ ap is_some k.1) ∙ ap (λ (gs : List (List ℕ)). frame_in (after_next_frame x).buffer (after_next_frame x).store ∷ gs) r.0, r.1)

pub drained-by : {x y : ReaderBox} {fs : List (List ℕ)} → Drain x fs y → Sound x → (w : HostBox)
    → (record { buffer = y.buffer; host = (all_taken fs w).host }, y.store, (all_taken fs w).packets, (all_taken fs w).streams) ≡ drained x w
unfolding drained
drained-by {x} {y} {fs} d s w = let r = drain_is d s in rw (r.0, r.1)
