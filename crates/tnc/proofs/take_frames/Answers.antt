-- `tnc::take_frames` meets its contract. The invariant: what is left to take gives what all of it gives. Assumes nothing.
use Rattle.std.proofs.Common.{ℕ, ◌≡◌, refl, sym, ap, ◌∙◌, subst}
use mathlib.Core.Bool.{true}
use mathlib.Core.List.{List}
use borrow.Author.Tests.{not-true, not-false}
use Rattle.kiss_calls.specs.declared.NextFrame.{NextFrame}
use Rattle.std.specs.Prelude.{Ok}
use Rattle.kiss_calls.specs.Calls.{frame_in}
use Rattle.kiss_calls.specs.Promises.{Box as ReaderBox, after_next_frame}
use Rattle.host_frame.specs.Promises.{Box as HostBox, left_by, after, Sound as HostSound}
use Rattle.host_frame.proofs.Kept as host
use Rattle.tnc_drain.specs.declared.Drained.{Drained}
use Rattle.tnc_drain.specs.Drain.{reader_box, host_box, drained}
use Rattle.tnc_drain.proofs.Drains.{then_sound, then_shorter, then_ends, then_goes_on}
use Rattle.tnc.specs.declared.KissWritten.{KissWritten}
use Rattle.tnc.proofs.take_frames.Goals as goal

pub loop-held-init : goal.loop-held-init
loop-held-init c = (refl, c.requires.0, c.requires.1)

pub returns-then-not-held : goal.returns-then-not-held
returns-then-not-held c =
    let x : ReaderBox = reader_box c.loop-held.held c.loop-held.reader in
    let w : HostBox = host_box c.loop-held.obeyed c.loop-held.packets c.loop-held.streams in
    let y : ReaderBox = reader_box c.next_frame.result.buffer c.next_frame.new.store in
    let came : y ≡ after_next_frame x = ap (λ (p : NextFrame × List ℕ). reader_box p.0.buffer p.1) c.next_frame.ensures in
    ap {B = KissWritten × List ℕ × List ℕ × List ℕ}
    (λ (p : Drained × List ℕ × List ℕ × List ℕ). (record { answer = Ok c.args.count; buffer = p.0.buffer; host = p.0.host }, p.1, p.2, p.3))
    (then_ends (x) (y) (came) c.loop-held.invariant.1 (w) (not-true _ c.if-not-held.true) ∙ sym c.loop-held.invariant.0)

pub loop-held-smaller : goal.loop-held-smaller
loop-held-smaller c =
    let x : ReaderBox = reader_box c.loop-held.held c.loop-held.reader in
    let y : ReaderBox = reader_box c.next_frame.result.buffer c.next_frame.new.store in
    let came : y ≡ after_next_frame x = ap (λ (p : NextFrame × List ℕ). reader_box p.0.buffer p.1) c.next_frame.ensures in
    let was_taken_lem : (y).buffer.taken ≡ true = not-false _ c.if-not-held.false in
    then_shorter (x) (y) (came) c.loop-held.invariant.1 (was_taken_lem)

pub loop-held-preserved : goal.loop-held-preserved
loop-held-preserved c =
    let x : ReaderBox = reader_box c.loop-held.held c.loop-held.reader in
    let w : HostBox = host_box c.loop-held.obeyed c.loop-held.packets c.loop-held.streams in
    let y : ReaderBox = reader_box c.next_frame.result.buffer c.next_frame.new.store in
    let came : y ≡ after_next_frame x = ap (λ (p : NextFrame × List ℕ). reader_box p.0.buffer p.1) c.next_frame.ensures in
    let was_taken_lem : (y).buffer.taken ≡ true = not-false _ c.if-not-held.false in
    let v : HostBox = host_box c.take_frame.result.host c.take_frame.new.packets c.take_frame.new.streams in
    let obeyed : v ≡ after (w) (frame_in (y).buffer (y).store) = ap left_by c.take_frame.ensures ∙ ap (after (w)) c.frame-frame.ensures in
    let i = c.loop-held.invariant in let f = frame_in (y).buffer (y).store in (
      i.0 ∙ then_goes_on (x) (y) (came) i.1 (w) (was_taken_lem) ∙ ap (drained (y)) (sym (obeyed)),
      then_sound (x) (y) (came) i.1,
      subst HostSound (sym (obeyed)) (host.sound_stays_sound (w) f i.2).1,
    )

pub shape_of-reader-then-not-held : goal.shape_of-reader-then-not-held
shape_of-reader-then-not-held c =
    let x : ReaderBox = reader_box c.loop-held.held c.loop-held.reader in
    let y : ReaderBox = reader_box c.next_frame.result.buffer c.next_frame.new.store in
    let came : y ≡ after_next_frame x = ap (λ (p : NextFrame × List ℕ). reader_box p.0.buffer p.1) c.next_frame.ensures in
    (then_sound (x) (y) (came) c.loop-held.invariant.1).its_store ∙ sym c.requires.0.its_store

pub shape_of-packets-then-not-held : goal.shape_of-packets-then-not-held
shape_of-packets-then-not-held c = c.loop-held.invariant.2.its_packets ∙ sym c.requires.1.its_packets

pub shape_of-streams-then-not-held : goal.shape_of-streams-then-not-held
shape_of-streams-then-not-held c = c.loop-held.invariant.2.its_streams ∙ sym c.requires.1.its_streams
