-- `kiss_header::header` meets its contract. Assumes nothing.
use Rattle.std.proofs.Common.{◌≡◌, ok_or, slice_get, ap, ◌∙◌, rules}
use Rattle.std.proofs.lemmas.Option.{gets}
use Rattle.kiss_layout.specs.declared.KissError.TheVariants.{MalformedKissFrame}
use Rattle.kiss_header.proofs.Halves.{header_at}
use Rattle.kiss_header.proofs.header.Goals as goal

pub returns : goal.returns
returns c =
    let got : c.copied.result ≡ slice_get c.args.frame.now c.leading_fends.result = search (rules, gets) in
    c.ok_or.ensures.value ∙ ap (λ o. ok_or o MalformedKissFrame) (got ∙ ap (slice_get c.args.frame.now) c.leading_fends.ensures ∙ header_at c.args.frame.now)
