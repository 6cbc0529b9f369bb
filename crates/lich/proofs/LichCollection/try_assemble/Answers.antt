-- `lich::LichCollection::try_assemble` meets its contract. Assumes nothing.
use Rattle.std.proofs.Common.{sym, ap, ◌∙◌}
use Rattle.std.specs.Prelude.{Err, Ok}
use Rattle.std.proofs.lemmas.Result.{err_from_is_err_and}
use Rattle.lich.proofs.Assembled.{by_count_lem}
use Rattle.lich.proofs.LichCollection.try_assemble.Goals as goal

pub returns-in_err-heard : goal.returns-in_err-heard
returns-in_err-heard c =
    let p = err_from_is_err_and c.from_residual.result c.from_residual.ensures.1 in
    rw (p.1, p.2) (by_count_lem c.args.self _ (sym c.in_err-heard.was ∙ c.valid_segments.ensures))

pub returns : goal.returns
returns c = ap Ok c.then_some.ensures ∙ by_count_lem c.args.self _ (sym c.in_ok-heard.was ∙ c.valid_segments.ensures)
