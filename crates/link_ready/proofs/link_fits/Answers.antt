-- `link_ready::link_fits` meets its contract. Assumes nothing.
use Rattle.std.proofs.Common.{◌∙◌}
use borrow.Author.Tests.{eq-eqb, ne_eqb}
use Rattle.choice.specs.Pick.{and_no, and_go}
use Rattle.link_ready.specs.Ready.{link_fits}
use Rattle.link_ready.proofs.link_fits.Goals as goal

pub returns-then-reader-eq-MAX_FRAME_LEN : goal.returns-then-reader-eq-MAX_FRAME_LEN
unfolding link_fits
returns-then-reader-eq-MAX_FRAME_LEN c = and_go (eq-eqb _ _ c.if-reader-eq-MAX_FRAME_LEN.true) c.stores_fit.ensures

pub returns-else-reader-eq-MAX_FRAME_LEN : goal.returns-else-reader-eq-MAX_FRAME_LEN
unfolding link_fits
returns-else-reader-eq-MAX_FRAME_LEN c = let e = ne_eqb _ _ c.if-reader-eq-MAX_FRAME_LEN.false in e ∙ and_no _ e
