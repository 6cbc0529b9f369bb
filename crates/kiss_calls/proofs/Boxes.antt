-- The reader's calls on record and store are its calls on what it holds, and a sound reader stays sound. Assumes nothing.
use mathlib.Core.Path.{◌≡◌, refl, sym, ap, ◌∙◌}
use mathlib.Core.Bool.{Bool, true, false}
use mathlib.Core.Option.{Option, none, some, map}
use mathlib.Core.List.{List, ◌∷◌}
use Prim.Native.Nat.{ℕ, ◌≤◌}
use native.Mathlib.Omega.{arith}
use lib.Dec.{eqb}
use lib.ListN.{length, drop, length-append, length-take, length-drop}
use lib.Seq.{take-append_seam}
use borrow.Author.Tests.{eq-eqb, eqb-true, le-leb}
use Rattle.choice.specs.Pick.{pick, and}
use Rattle.room.specs.Room.{over}
use Rattle.kiss_layout.specs.Scan.{stretch}
use Rattle.kiss_calls.specs.declared.WriteError.TheVariants.{Full, WrongStore, OutOfBounds}
use Rattle.kiss_calls.specs.declared.Written.{Written}
use Rattle.std.specs.Prelude.{Ok, None, Some}
use Rattle.kiss_calls.specs.declared.NextFrame.{NextFrame}
use Rattle.kiss_reader.specs.Meaning.{enclosed}
use Rattle.kiss_reader.specs.Reader.{Reader, new_reader, STORE, flush, front, is_some, next, after_next, refused, takes, after_write}
use Rattle.kiss_calls.specs.Calls.{reader_of, buffer_of, sound_buffer, not_written, writes, written, taken_by, next_answer, found, next_frame, frame_in}
use Rattle.kiss_reader.specs.Front.{stands_first}
use Rattle.kiss_calls.specs.Promises.{Box, new_box, after_written, after_next_frame, Sound}
use Rattle.kiss_reader.proofs.Settled.{Settled, bare, alone, fronted, settled}
use Rattle.kiss_reader.proofs.Steps.{length-settle, length-flush, length_write}

-- ---- a reader in a box: its bytes over the start of a store

abbrev pub reading : Box → Reader
reading x = reader_of x.buffer x.store

abbrev pub box_of : Reader → List ℕ → Box
box_of r store = record { buffer = buffer_of r; store = over r.held store }

module _ (r : Reader) (store : List ℕ) where
  pub box_reads : reading (box_of r store) ≡ r
  box_reads = λ i. record { held = take-append_seam r.held (drop (length r.held) store) i; taken = r.taken }

  pub box_sound : length store ≡ STORE → length r.held ≤ STORE → pick r.taken (stands_first r.held) true ≡ true → Sound (box_of r store)
  unfolding sound_buffer and
  box_sound l k s =
      record {
        its_store = omega (arith, length-append r.held (drop (length r.held) store), length-drop (length r.held) store);
        its_state = rw (le-leb (length r.held) STORE k, take-append_seam r.held (drop (length r.held) store)) s;
      }

pub new_sound : (store : List ℕ) → length store ≡ STORE → Sound (new_box store)
unfolding pick
new_sound store l = box_sound new_reader store l (omega arith) refl

pub held_short : (x : Box) → Sound x → length (reading x).held ≤ STORE
held_short x s = omega (arith, length-take x.buffer.filled x.store, s.its_store)

-- ---- next_frame

module _ (x : Box) (s : Sound x) where
  next_works : next_frame x.buffer x.store ≡ found (reading x) x.store
  unfolding next_frame pick
  next_works = rw (eq-eqb (length x.store) STORE s.its_store, s.its_state)

  pub next_answer_lem : (next_frame x.buffer x.store).0.answer ≡ next_answer (next (reading x))
  unfolding found
  next_answer_lem = ap (λ (t : NextFrame × List ℕ). t.0.answer) next_works

  next_box : after_next_frame x ≡ box_of (after_next (reading x)) x.store
  unfolding found
  next_box = ap {B = Box} (λ (t : NextFrame × List ℕ). record { buffer = t.0.buffer; store = t.1 }) next_works

  pub next-reads : reading (after_next_frame x) ≡ after_next (reading x)
  next-reads = ap reading next_box ∙ box_reads (after_next (reading x)) x.store

-- what the answer says of what is held
pub none-answered : (o : Option (List ℕ)) → next_answer o ≡ (Ok None) → o ≡ none
none-answered none e = refl
none-answered (some f) e = let z : ◌≡◌ {A = ℕ} 0 1 = cc in absurd (omega arith)

pub some-answered : (o : Option (List ℕ)) (n : ℕ) → next_answer o ≡ Ok (Some n) → (f : List ℕ) × (o ≡ some f)
some-answered none n e = let z : ◌≡◌ {A = ℕ} 0 1 = cc in absurd (omega arith)
some-answered (some f) n e = (f, refl)

-- a frame that was handed out stands first: `settle` left its FEND with no FEND behind it
handed_stands : {g : List ℕ} → Settled g → pick (is_some (front g)) (stands_first g) true ≡ true
unfolding front stands_first stretch pick and
handed_stands bare = refl
handed_stands alone = refl
handed_stands (fronted b x e) = rw e (by (stretch x))
  where
    by : (o : Option (List ℕ)) → pick (is_some (map enclosed (map (λ t. b ∷ t) o))) (is_some o) true ≡ true
    by none = refl
    by (some t) = refl

-- and it is what `frame` then gives
abbrev pub handed_out_lem : Box → List ℕ
handed_out_lem x = frame_in (after_next_frame x).buffer (after_next_frame x).store

module _ (x : Box) (s : Sound x) where
  pub next_sound : Sound (after_next_frame x)
  unfolding after_next next
  next_sound =
      let r : Reader = reading x in
      rw (next_box x s)
      (box_sound (after_next r) x.store s.its_store (omega (arith, held_short x s, length-flush r, length-settle (flush r))) (handed_stands (settled (flush r))))

  pub next-frame : (f : List ℕ) → next (reading x) ≡ some f → handed_out_lem x ≡ f
  unfolding frame_in pick and after_next next
  next-frame f e =
      let y : Box = after_next_frame x in
      let l : eqb (length y.store) STORE ≡ true = eq-eqb (length y.store) STORE next_sound.its_store in
      let t : y.buffer.taken ≡ true = ap (λ (r : Reader). r.taken) (next-reads x s) ∙ ap is_some e in
      let g : front (reading y).held ≡ some f = ap (λ (r : Reader). front r.held) (next-reads x s) ∙ e in
      rw (l, next_sound.its_state, t, g)

-- ---- write

module _ (x : Box) (o : List ℕ) (s : Sound x) where
  write_works : written x.buffer o x.store ≡ writes (reading x) x.buffer o x.store
  unfolding written pick
  write_works = rw (eq-eqb (length x.store) STORE s.its_store, s.its_state)

  module _ (n : refused (reading x) ≡ false) where
    write_done : written x.buffer o x.store
        ≡ (record { answer = Ok (takes (reading x) o); buffer = buffer_of (after_write (reading x) o) }, over (after_write (reading x) o).held x.store)
    unfolding writes pick
    write_done = write_works ∙ rw n

    pub write_answer : (written x.buffer o x.store).0.answer ≡ Ok (takes (reading x) o)
    write_answer = ap (λ (t : Written × List ℕ). t.0.answer) write_done

    pub write_count : {k : ℕ} → (written x.buffer o x.store).0.answer ≡ Ok k → k ≡ takes (reading x) o
    write_count e = ap taken_by (sym e ∙ write_answer)

    write_box : after_written x o ≡ box_of (after_write (reading x) o) x.store
    write_box = ap {B = Box} (λ (t : Written × List ℕ). record { buffer = t.0.buffer; store = t.1 }) write_done

    pub write_reads : reading (after_written x o) ≡ after_write (reading x) o
    write_reads = ap reading write_box ∙ box_reads (after_write (reading x) o) x.store

  -- a refused write leaves the box as it was
  write_refused : refused (reading x) ≡ true → written x.buffer o x.store ≡ not_written Full x.buffer x.store
  unfolding writes pick
  write_refused e = write_works ∙ rw e

  pub write_stays : refused (reading x) ≡ true → after_written x o ≡ x
  write_stays e = ap {B = Box} (λ (t : Written × List ℕ). record { buffer = t.0.buffer; store = t.1 }) (write_refused e)

  pub write_sound : Sound (after_written x o)
  unfolding after_write pick
  write_sound = by (refused (reading x)) refl
    where
      by : (t : Bool) → refused (reading x) ≡ t → Sound (after_written x o)
      by true e = rw (write_stays e) s
      by false e = rw (write_box e) (box_sound (after_write (reading x) o) x.store s.its_store (length_write (reading x) o (held_short x s)) refl)

-- a write that is done was asked of a sound reader, and not refused
pub done_says : (x : Box) (o : List ℕ) {n : ℕ} → (written x.buffer o x.store).0.answer ≡ Ok n → Sound x × (refused (reading x) ≡ false)
unfolding written writes pick
done_says x o {n} = by (eqb (length x.store) STORE) (sound_buffer x.buffer x.store) (refused (reading x)) _ refl refl refl
  where
    by : (a b c : Bool) (done : Written × List ℕ) → eqb (length x.store) STORE ≡ a → sound_buffer x.buffer x.store ≡ b → refused (reading x) ≡ c
        → (pick a (pick b (pick c (not_written Full x.buffer x.store) done) (not_written OutOfBounds x.buffer x.store))
        (not_written WrongStore x.buffer x.store)).0.answer ≡ Ok n
        → Sound x × (refused (reading x) ≡ false)
    by true true false done e f g k = (record { its_store = eqb-true (length x.store) STORE e; its_state = f }, g)
    by true true true done e f g k = let z : ◌≡◌ {A = ℕ} 0 1 = cc in absurd (omega arith)
    by true false c done e f g k = let z : ◌≡◌ {A = ℕ} 0 1 = cc in absurd (omega arith)
    by false b c done e f g k = let z : ◌≡◌ {A = ℕ} 0 1 = cc in absurd (omega arith)
