-- `event_open::keep_bytes` meets its contract. The invariant says that the run from the place reached leaves what the run from the start leaves. Assumes nothing.
use Rattle.std.proofs.Common.{ℕ, ◌+◌, ◌-◌, ◌/◌, ◌≤◌, ◌<◌, ◌≡◌, ap, ◌∙◌, arith}
use mathlib.Core.List.{List, []}
use lib.ListN.{length, take, drop, get_or, set, length-drop, length-set}
use Rattle.std.proofs.lemmas.List.{take_rest}
use Rattle.std.specs.Prelude.{Result}
use Rattle.std.specs.Result.{result_unwrap_or}
use Rattle.event_line.specs.declared.LineError.{LineError}
use Rattle.choice.specs.Pick.{not_yes, not_no}
use Rattle.event_answer.specs.Answer.{LINE}
use Rattle.event_open.specs.Inside.{kept_run}
use Rattle.event_open.proofs.Runs.{event_fits, event_kind, event_byte, run_short, run_stops, run-keeps, as_kept, kept_room, line_put, line_ends}
use mathlib.Core.Bool.{not}
use Rattle.event_open.proofs.keep_bytes.Goals as goal

pub loop-event-preserved : goal.loop-event-preserved
loop-event-preserved c =
    let a = c.args in let l = c.loop-event in let chunks = c.as_chunks.ensures in
    let below : l.event-index < length (take (length a.src.now - a.at) (drop a.at a.src.now)) / 2 = omega (arith, chunks.front_len, c.loop-event-test.true) in
    let kept = not_yes (as_kept _ _ (length l.dst - l.j) (length l.reader - l.n)) (ap not c.if-not-kind-b.false) in
    let roomy : (LINE ≤ length l.dst - l.j) × (1 ≤ length l.reader - l.n) = kept_room _ _ _ _ kept in
    let ends : c.unwrap_or-j.result ≡ l.j + 7 = c.unwrap_or-j.ensures ∙ ap (λ (r : Result ℕ LineError). result_unwrap_or r l.j) (line_ends a.on l.dst _ l.j (omega (arith, roomy)) c.put_line.ensures) in (
      omega (arith, l.invariant.0),
      omega (arith, ends, roomy, c.put_line.auto.dst),
      simp length-set (omega (arith, roomy)),
      c.put_line.auto.dst ∙ l.invariant.3,
      simp length-set l.invariant.4,
      rw ends (ap (λ (d : List ℕ). kept_run (drop (l.i + 2) a.src.now) (l.i + 2) d (l.j + 7) (set l.reader l.n (get_or (get_or c.as_chunks.result.0.now l.event-index []) 1 0)) (l.n + 1) a.on)
          (line_put a.on l.dst _ l.j (omega (arith, roomy)) c.put_line.ensures)
          ∙ run-keeps a.src.now l.i (event_fits a.src.now a.at l.event-index l.i chunks.front below l.invariant.0) l.dst l.j l.reader l.n a.on
          (event_kind a.src.now a.at l.event-index l.i chunks.front below l.invariant.0) (event_byte a.src.now a.at l.event-index l.i chunks.front below l.invariant.0) kept
          ∙ l.invariant.5),
    )

pub returns-after-loop-event : goal.returns-after-loop-event
returns-after-loop-event c =
    let a = c.args in let l = c.loop-event in let chunks = c.as_chunks.ensures in
    let short : length (drop l.i a.src.now) < 2 = omega (arith, chunks.front_len, c.loop-event-test.false, l.auto.event-index-end, l.invariant.0, ap length (take_rest a.src.now a.at), length-drop a.at a.src.now, length-drop l.i a.src.now) in
    run_short (drop l.i a.src.now) l.i l.dst l.j l.reader l.n a.on short ∙ l.invariant.5

pub returns-then-not-kind-b : goal.returns-then-not-kind-b
returns-then-not-kind-b c =
    let a = c.args in let l = c.loop-event in let chunks = c.as_chunks.ensures in
    let below : l.event-index < length (take (length a.src.now - a.at) (drop a.at a.src.now)) / 2 = omega (arith, chunks.front_len, c.loop-event-test.true) in
    run_stops a.src.now l.i (event_fits a.src.now a.at l.event-index l.i chunks.front below l.invariant.0) l.dst l.j l.reader l.n a.on
    (event_kind a.src.now a.at l.event-index l.i chunks.front below l.invariant.0) (event_byte a.src.now a.at l.event-index l.i chunks.front below l.invariant.0)
    (not_no (as_kept _ _ _ _) (ap not c.if-not-kind-b.true)) ∙ l.invariant.5
