-- `block_none::none_of` meets its contract. Assumes nothing.
use Rattle.std.proofs.Common.{Bool, ◌≡◌, refl, ap, ◌∙◌, rules}
use mathlib.Core.Bool.{not, ◌&&◌}
use lib.Dec.{eqb}
use Rattle.std.proofs.lemmas.Fn.{fold_over, slice_gives, fronts}
use Rattle.blocks.specs.Block.{without}
use Rattle.block_none.proofs.Tested.{tested}
use Rattle.block_none.proofs.none_of.Goals as goal

pub returns : goal.returns
unfolding without
returns c =
    let a = c.args in
    fold_over fronts (λ y. y.now) _ (λ t clear. clear ≡ without a.b t) _
    (λ t clear x r f j k.
    let e : r ≡ (clear && not (eqb x.now a.b)) = search rules in
    (e ∙ ap (λ (p : Bool). p && not (eqb x.now a.b)) j ∙ tested a.b x.now t, search rules))
    c.iter.result _ _ c.fold.result (slice_gives c.iter.result) refl c.fold.ensures.ran
    ∙ ap (without a.b) c.iter.ensures.rest
