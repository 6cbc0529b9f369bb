-- The promises of specs/Promises.antt are kept. Assumes nothing.
use Prim.Native.Nat.{ℕ}
use mathlib.Core.Bool.{Bool, true, false}
use mathlib.Core.Logic.{◌≢◌}
use mathlib.Core.Option.{Option, none, some}
use mathlib.Core.Path.{◌≡◌, refl, ap, ◌∙◌}
use mathlib.Core.List.{List}
use lib.Dec.{eqb}
use lib.ListN.{length}
use Rattle.choice.specs.Pick.{pick}
use Rattle.kiss_layout.specs.Build.{Building}
use Rattle.kiss_layout.proofs.Kept.{built_reads_back}
use Rattle.kiss_calls.specs.declared.WriteError.TheVariants.{Full, WrongStore, OutOfBounds}
use Rattle.kiss_calls.specs.declared.Written.{Written}
use Rattle.std.specs.Prelude.{Ok, Err}
use Rattle.room.specs.declared.LentError.TheVariants.{WrongStore as WrongStore', OutOfBounds as OutOfBounds'}
use Rattle.kiss_calls.specs.declared.NextFrame.{NextFrame}
use Rattle.kiss_reader.specs.Reader.{STORE, next, refused, takes}
use Rattle.kiss_calls.specs.Calls.{sound_buffer, not_written, writes, written, taken_by, next_answer, not_sought, found, next_frame, write_number, next_number}
use Rattle.kiss_calls.specs.Promises.{Box, after_written, after_next_frame, RunGivesItsFrames, RefusedKeepsAll, WriteTakesSome, DrainedIsNotRefused, TakingEnds, SoundStaysSound, EveryInputHasItsRun, AllReadBack, none_read, one_read, Demand3}
use Rattle.kiss_reader.specs.Promises.{AllAccepted, none_accepted, one_accepted}
use Rattle.kiss_reader.proofs.Frames.{built_frames}
use Rattle.kiss_reader.proofs.Steps.{still_not_refused, takes-some}
use Rattle.kiss_calls.proofs.Boxes.{reading, next_sound, write_answer, write_count, write_sound, done_says}
use Rattle.kiss_calls.proofs.Runs.{drain_still, run_frames, drain_exists, run_exists}

pub run_gives_its_frames : RunGivesItsFrames
run_gives_its_frames = run_frames

-- ---- refusals

write_keeps : (x : Box) (o : List ℕ) → write_number (written x.buffer o x.store).0.answer ≢ 0 → (taken_by (written x.buffer o x.store).0.answer ≡ 0) × (after_written x o ≡ x)
unfolding written writes pick
write_keeps x o = by (eqb (length x.store) STORE) (sound_buffer x.buffer x.store) (refused (reading x)) _ refl
  where
    chosen : Bool → Bool → Bool → Written × List ℕ → Written × List ℕ
    chosen a b c done =
        pick a (pick b (pick c (not_written Full x.buffer x.store) done) (not_written OutOfBounds x.buffer x.store)) (not_written WrongStore x.buffer x.store)

    by : (a b c : Bool) (done : Written × List ℕ) {n : ℕ} → done.0.answer ≡ Ok n → write_number (chosen a b c done).0.answer ≢ 0
        → (taken_by (chosen a b c done).0.answer ≡ 0) × (record { buffer = (chosen a b c done).0.buffer; store = (chosen a b c done).1 } ≡ x)
    by true true true done e f = (refl, refl)
    by true true false done e f = absurd (f (ap write_number e))
    by true false c done e f = (refl, refl)
    by false b c done e f = (refl, refl)

next-keeps : (x : Box) → next_number (next_frame x.buffer x.store).0.answer ≢ 0 → after_next_frame x ≡ x
unfolding next_frame found pick
next-keeps x = by (eqb (length x.store) STORE) (sound_buffer x.buffer x.store) (next (reading x)) _ refl
  where
    chosen : Bool → Bool → NextFrame × List ℕ → NextFrame × List ℕ
    chosen a b done = pick a (pick b done (not_sought (Err OutOfBounds') x.buffer x.store)) (not_sought (Err WrongStore') x.buffer x.store)

    number-0 : (o : Option (List ℕ)) → next_number (next_answer o) ≡ 0
    number-0 none = refl
    number-0 (some f) = refl

    by : (a b : Bool) (o : Option (List ℕ)) (done : NextFrame × List ℕ) → done.0.answer ≡ next_answer o → next_number (chosen a b done).0.answer ≢ 0
        → record { buffer = (chosen a b done).0.buffer; store = (chosen a b done).1 } ≡ x
    by true true o done e f = absurd (f (ap next_number e ∙ number-0 o))
    by true false o done e f = refl
    by false b o done e f = refl

pub refused_keeps_all : RefusedKeepsAll
refused_keeps_all x = (write_keeps x, next-keeps x)

-- ---- and no run gets stuck

pub write_takes_some : WriteTakesSome
write_takes_some x o k e l =
    let d = done_says x o e in
    rw (write_count x o d.0 d.1 e) (takes-some (reading x) o d.1 l)

pub drained_is_not_refused : DrainedIsNotRefused
drained_is_not_refused x y fs o s d =
    let z = drain_still d s in
    (takes (reading y) o, write_answer y o z.0 (still_not_refused (reading y) z.1))

pub taking_ends : TakingEnds
taking_ends = drain_exists

pub sound_stays_sound : SoundStaysSound
sound_stays_sound x s = (λ o. write_sound x o s, next_sound x s)

pub every_input_has_its_run : EveryInputHasItsRun
every_input_has_its_run = run_exists

-- ---- demand 3

all_read_back : {bs : List Building} → AllAccepted bs → AllReadBack bs
all_read_back none_accepted = none_read
all_read_back (one_accepted {b} ok oks) = one_read (built_reads_back b ok) (all_read_back oks)

pub demand_3 : Demand3
demand_3 earlier b bs oks w f store l out r = (run_frames store l w out r ∙ built_frames earlier oks f, all_read_back oks)
