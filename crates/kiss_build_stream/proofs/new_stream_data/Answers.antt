-- `kiss_build_stream::new_stream_data` meets its contract. Assumes nothing.
use Rattle.std.proofs.Common.{ℕ, ◌≡◌, List, None, Some, Err, sym, ap, ◌∙◌, arith, rules}
use mathlib.Core.Option.{none, some}
use Rattle.std.proofs.lemmas.Grind.{common_steps}
use Rattle.std.proofs.lemmas.Result.{err_from_is_err_and}
use Rattle.kiss_stream.specs.Checked.{checked_content}
use Rattle.kiss_stream.proofs.Checked.{when_outside, when_inside}
use Rattle.kiss_layout.specs.declared.BuildError.TheVariants.{OutOfRange}
use Rattle.kiss_layout.specs.Frame.{frame, put_frame}
use Rattle.kiss_layout.specs.Build.{stream_data, refusal}
use Rattle.kiss_layout.proofs.Builds.{built-accepted, built-refused}
use Rattle.kiss_build_stream.proofs.new_stream_data.Goals as goal

pub returns-in_err-content : goal.returns-in_err-content
unfolding refusal
returns-in_err-content c =
    let a = c.args in
    let refused : c.from_residual.result ≡ Err OutOfRange = search (rules, err_from_is_err_and) in
    let outside : checked_content a.frame ≡ None = sym c.checked_content.ensures ∙ grind (arith, common_steps) in
    rw refused (built-refused (stream_data a.frame) a.room.now (when_outside a.frame (some OutOfRange) none outside))

pub returns : goal.returns
unfolding refusal
returns c =
    let a = c.args in
    let inside : checked_content a.frame ≡ Some c.in_ok-content.content = sym c.checked_content.ensures ∙ grind (arith, common_steps) in
    let told = when_inside a.frame (some OutOfRange) none c.in_ok-content.content inside in
    c.put_frame.ensures
    ∙ ap (λ (l : List ℕ). put_frame (frame 32 l) a.room.now) told.1
    ∙ built-accepted (stream_data a.frame) a.room.now told.0
