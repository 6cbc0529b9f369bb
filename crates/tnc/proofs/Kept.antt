-- The promises of specs/Promises.antt are kept. Assumes nothing.
use Prim.Native.Nat.{ℕ}
use mathlib.Core.Bool.{false≢true}
use mathlib.Core.Path.{◌≡◌, refl, sym, ap, ◌∙◌, subst}
use mathlib.Core.List.{List, [], ◌∷◌, ◌++◌, append-nil}
use native.Mathlib.Omega.{arith}
use lib.Dec.{eqb}
use borrow.Author.Tests.{eqb-false}
use lib.ListN.{length, take, drop}
use Rattle.choice.specs.Pick.{pick_all}
use Rattle.kiss_calls.specs.declared.WriteError.{WriteError}
use Rattle.kiss_calls.specs.declared.WriteError.TheVariants.{Full, WrongStore, OutOfBounds}
use Rattle.std.specs.Prelude.{Result, Ok, Err}
use Rattle.kiss_calls.specs.declared.Written.{Written}
use Rattle.kiss_reader.specs.Meaning.{frames_of}
use Rattle.kiss_reader.specs.Reader.{STORE as READER, refused as refused_by}
use Rattle.kiss_calls.specs.Calls.{sound_buffer, writes, written, write_number, taken_by}
use Rattle.kiss_calls.specs.Promises.{Box as ReaderBox, after_written, Drain, Run, over as all_read, write as one_read, Sound as ReaderSound}
use Rattle.kiss_calls.proofs.Kept as reader
use Rattle.kiss_reader.proofs.Steps.{Still, still_flush, still_ends}
use Rattle.kiss_calls.proofs.Boxes.{reading, new_sound, write_sound}
use Rattle.kiss_calls.proofs.Runs.{drain_exists, drain_still, run_frames}
use Rattle.packets.specs.Queue.{STORE as PACKETS}
use Rattle.streams.specs.Queue.{STORE as STREAMS}
use Rattle.host_record.specs.Host.{sound_host}
use Rattle.host_frame.specs.Promises.{Box as HostBox, after, Sound as HostSound}
use Rattle.host_frame.proofs.Kept as host
use Rattle.tnc.specs.declared.KissWritten.{KissWritten}
use Rattle.tnc_drain.specs.Drain.{frames_held, all_taken, drained}
use Rattle.tnc.specs.Bytes.{refused, onward, offered, kiss_written}
use Rattle.tnc.specs.Promises.{Link, written_at, left_by, after_write, Sound, RefusedKeepsAll, SoundStaysSound, NoneLeft, WrittenLeavesNone, NeverStuck, Writes, over, write, WritesObeyTheFrames}
use Rattle.tnc_drain.proofs.Drains.{drained-by}
use Rattle.tnc.proofs.Links.{went}

-- what holds of every refusal and of what the reader's answer leads to holds of what a write comes to
each : (l : Link) (buf : List ℕ) (Q : KissWritten × List ℕ × List ℕ × List ℕ → Type 0)
    → ((error : WriteError) → Q (refused error l.reader.buffer l.host.host, l.reader.store, l.host.packets, l.host.streams))
    → Q (offered (written l.reader.buffer buf l.reader.store) l.host) → Q (written_at l buf)
unfolding kiss_written
each l buf Q f d =
    pick_all Q (eqb (length l.reader.store) READER) _ _
    (λ r. pick_all Q (eqb (length l.host.packets) PACKETS) _ _
    (λ p. pick_all Q (eqb (length l.host.streams) STREAMS) _ _
    (λ q. pick_all Q (sound_host l.host.host) _ _ (λ s. d) (λ s. f OutOfBounds)) (λ q. f WrongStore)) (λ p. f WrongStore))
    (λ r. f WrongStore)

-- ---- refusals

-- no byte taken, nothing changed, unless the answer is 0
abbrev Fair : Link → KissWritten × List ℕ × List ℕ × List ℕ → Type 0
Fair l r = (write_number r.0.answer ≡ 0 → ⊥) → (taken_by r.0.answer ≡ 0) × (left_by r ≡ l)

onward_fair : (a : Result ℕ WriteError) (x : ReaderBox) (l : Link) → ((write_number a ≡ 0 → ⊥) → x ≡ l.reader) → Fair l (onward a x l.host)
onward_fair (Ok count) x l k n = absurd (n refl)
onward_fair (Err error) x l k n = (refl, λ t. record { reader = k n t; host = l.host })

pub refused_keeps_all : RefusedKeepsAll
refused_keeps_all l buf =
    each l buf (Fair l) (λ a n. (refl, refl))
    (onward_fair (written l.reader.buffer buf l.reader.store).0.answer _ l (λ n. ((reader.refused_keeps_all l.reader).0 buf n).1))

-- ---- the bounds

all_sound_lem : (fs : List (List ℕ)) (w : HostBox) → HostSound w → HostSound (all_taken fs w)
unfolding all_taken
all_sound_lem [] w s = s
all_sound_lem (f ∷ fs) w s = all_sound_lem fs (after w f) (host.sound_stays_sound w f s).1

module _ (l : Link) (buf : List ℕ) (s : Sound l) where
  abbrev x : ReaderBox
  x = after_written l.reader buf

  -- the reader as it is once its bytes were offered, and drained
  its_drain : (fs : List (List ℕ)) × (y : ReaderBox) × Drain x fs y
  its_drain = drain_exists x (write_sound l.reader buf s.its_reader)

  its_end : ReaderSound its_drain.1 × Still (reading its_drain.1)
  its_end = drain_still its_drain.2 (write_sound l.reader buf s.its_reader)

  -- what a write that is answered 0 comes to
  module _ (k : ℕ) (e : (written l.reader.buffer buf l.reader.store).0.answer ≡ Ok k) where
    comes_to : (
      record { answer = Ok k; buffer = its_drain.1.buffer; host = (all_taken its_drain.0 l.host).host },
      its_drain.1.store,
      (all_taken its_drain.0 l.host).packets,
      (all_taken its_drain.0 l.host).streams,
    ) ≡ written_at l buf
    comes_to =
        ap {B = KissWritten × List ℕ × List ℕ × List ℕ}
        (λ d. (record { answer = Ok k; buffer = d.0.buffer; host = d.0.host }, d.1, d.2, d.3))
        (drained-by its_drain.2 (write_sound l.reader buf s.its_reader) l.host)
        ∙ went l.reader.buffer l.host.host buf l.reader.store l.host.packets l.host.streams
        s.its_reader.its_store s.its_host.its_packets s.its_host.its_streams s.its_host.its_host (Ok k) _ _ refl e

    leaves : record { reader = its_drain.1; host = all_taken its_drain.0 l.host } ≡ after_write l buf
    leaves = ap left_by comes_to

    leaves_sound : Sound (after_write l buf)
    leaves_sound = subst Sound leaves (record { its_reader = its_end.0; its_host = all_sound_lem its_drain.0 l.host s.its_host })

-- the answer of a write is the reader's
pub answer_is : (l : Link) (buf : List ℕ) → Sound l → (written_at l buf).0.answer ≡ (written l.reader.buffer buf l.reader.store).0.answer
answer_is l buf s =
    sym (ap (λ (r : KissWritten × List ℕ × List ℕ × List ℕ). r.0.answer)
    (went l.reader.buffer l.host.host buf l.reader.store l.host.packets l.host.streams
    s.its_reader.its_store s.its_host.its_packets s.its_host.its_streams s.its_host.its_host _ _ _ refl refl))
    ∙ by (written l.reader.buffer buf l.reader.store).0.answer
  where
    by : (a : Result ℕ WriteError) → (onward a (after_written l.reader buf) l.host).0.answer ≡ a
    by (Ok count) = refl
    by (Err error) = refl

done_or_not : (a : Result ℕ WriteError) → (P : Type 0) → ((k : ℕ) → a ≡ Ok k → P) → ((write_number a ≡ 0 → ⊥) → P) → P
done_or_not (Ok k) P f g = f k refl
done_or_not (Err Full) P f g = g (λ e. absurd (omega (arith, e)))
done_or_not (Err WrongStore) P f g = g (λ e. absurd (omega (arith, e)))
done_or_not (Err OutOfBounds) P f g = g (λ e. absurd (omega (arith, e)))

pub sound_stays_sound : SoundStaysSound
sound_stays_sound l buf s =
    done_or_not (written_at l buf).0.answer (Sound (after_write l buf)) (λ k e. leaves_sound l buf s k (sym (answer_is l buf s) ∙ e))
    (λ n. subst Sound (sym (refused_keeps_all l buf n).1) s)

-- ---- none is left

still_none : (x : ReaderBox) → Still (reading x) → NoneLeft x
unfolding frames_held
still_none x t =
    record {
      untaken = t.untaken;
      none_held = ap frames_of (still_flush (reading x) t ∙ sym (append-nil (reading x).held)) ∙ still_ends (reading x) t;
    }

pub written_leaves_none : WrittenLeavesNone
written_leaves_none l buf k s e =
    let d = sym (answer_is l buf s) ∙ e in subst (λ (m : Link). NoneLeft m.reader) (leaves l buf s k d) (still_none (its_drain l buf s).1 (its_end l buf s).1)

pub never_stuck : NeverStuck
never_stuck l buf more k s e =
    let d = sym (answer_is l buf s) ∙ e in let m = after_write l buf in let g = leaves_sound l buf s k d in
    let done : (n : ℕ) × ((written m.reader.buffer more m.reader.store).0.answer ≡ Ok n) =
    subst (λ (k : Link). (n : ℕ) × ((written k.reader.buffer more k.reader.store).0.answer ≡ Ok n)) (leaves l buf s k d)
    (reader.drained_is_not_refused (x l buf s) (its_drain l buf s).1 (its_drain l buf s).0 more (write_sound l.reader buf s.its_reader) (its_drain l buf s).2) in
    (done.0, answer_is m more g ∙ done.1, reader.write_takes_some m.reader more done.0 done.1)

-- ---- any writes

taken_both : (fs gs : List (List ℕ)) (w : HostBox) → all_taken (fs ++ gs) w ≡ all_taken gs (all_taken fs w)
unfolding all_taken
taken_both [] gs w = refl
taken_both (f ∷ fs) gs w = taken_both fs gs (after w f)

-- a run of the reader, and what its frames do
record Obeyed (l m : Link) (w : List ℕ) : Type 0 where
  out : List (List ℕ)
  run : Run l.reader w out
  done : m.host ≡ all_taken out l.host

-- one write, then the others
obeyed_one : (l m : Link) (w : List ℕ) (k n : ℕ) (s : Sound l) → (written l.reader.buffer (take n w) l.reader.store).0.answer ≡ Ok k
    → Obeyed (after_write l (take n w)) m (drop k w) → Obeyed l m w
obeyed_one l m w k n s e o =
    let d = its_drain l (take n w) s in let q = leaves l (take n w) s k e in
    record {
      out = d.0 ++ o.out;
      run = one_read n e d.2 (subst (λ (j : Link). Run j.reader (drop k w) o.out) (sym q) o.run);
      done = o.done ∙ ap (λ (k : Link). all_taken o.out k.host) (sym q) ∙ sym (taken_both d.0 o.out l.host);
    }

obeys : {l m : Link} {w : List ℕ} → Writes l w m → Sound l → Obeyed l m w
unfolding all_taken
obeys over s = record { out = []; run = all_read; done = refl }
obeys (write {l} {m} {w} {k} n e rest) s =
    let d = sym (answer_is l (take n w) s) ∙ e in obeyed_one l m w k n s d (obeys rest (leaves_sound l (take n w) s k d))

pub writes_obey_the_frames : WritesObeyTheFrames
writes_obey_the_frames store len h s w m r =
    let o = obeys r (record { its_reader = new_sound store len; its_host = s }) in
    o.done ∙ ap (λ (fs : List (List ℕ)). all_taken fs h) (run_frames store len w o.out o.run)

-- a write that is answered 0 does what the frames do that it completes
pub writes-take : (l : Link) (buf : List ℕ) (k : ℕ) → Sound l → (written l.reader.buffer buf l.reader.store).0.answer ≡ Ok k
    → all_taken (frames_held (after_written l.reader buf)) l.host ≡ (after_write l buf).host
unfolding drained
writes-take l buf k s e =
    ap (λ (r : KissWritten × List ℕ × List ℕ × List ℕ). (left_by r).host)
    (went l.reader.buffer l.host.host buf l.reader.store l.host.packets l.host.streams
    s.its_reader.its_store s.its_host.its_packets s.its_host.its_streams s.its_host.its_host (Ok k) _ _ refl e)

-- a sound reader answers 0 or 5
pub reader_answers : (P : Result ℕ WriteError → Type 0) (x : ReaderBox) (buf : List ℕ) → ReaderSound x → ((n : ℕ) → P (Ok n)) → P (Err Full) → P (written x.buffer buf x.store).0.answer
unfolding written writes
reader_answers P x buf s done full =
    pick_all (λ (r : Written × List ℕ). P r.0.answer) (eqb (length x.store) READER) _ _
    (λ t. pick_all (λ (r : Written × List ℕ). P r.0.answer) (sound_buffer x.buffer x.store) _ _
    (λ u. pick_all (λ (r : Written × List ℕ). P r.0.answer) (refused_by (reading x)) _ _ (λ v. full) (λ v. done _))
    (λ u. absurd (false≢true (sym u ∙ s.its_state))))
    (λ t. absurd (eqb-false _ _ t s.its_store))
