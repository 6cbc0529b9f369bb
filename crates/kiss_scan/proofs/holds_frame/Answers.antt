-- `kiss_scan::holds_frame` meets its contract. Assumes nothing.
use Rattle.std.proofs.Common.{ℕ, ◌≡◌, sym, ap, ◌∙◌}
use mathlib.Core.List.{List}
use lib.ListN.{drop}
use Rattle.std.specs.Option.{is_some as has}
use Rattle.kiss_reader.specs.Reader.{settle, front, is_some}
use Rattle.kiss_reader.proofs.Indices.{settle-at}
use Rattle.kiss_reader.proofs.Fronts.{to_the_end, length-some}
use Rattle.kiss_scan.proofs.holds_frame.Goals as goal

pub returns : goal.returns
returns c =
    let h = c.args.h.now in
    let e : drop c.settle_at.result h ≡ settle h = ap (λ (n : ℕ). drop n h) c.settle_at.ensures ∙ sym (settle-at h) in
    c.is_some.ensures
    ∙ ap has c.front_len.ensures
    ∙ length-some _
    ∙ ap (λ (l : List ℕ). is_some (front l)) (to_the_end c.settle_at.result h ∙ e)
