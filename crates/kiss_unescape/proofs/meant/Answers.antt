-- `kiss_unescape::meant` meets its contract. Assumes nothing.
use Rattle.choice.specs.Pick.{tests}
use Rattle.kiss_unescape.proofs.meant.Goals as goal

pub returns-then-e-eq-TFEND : goal.returns-then-e-eq-TFEND
returns-then-e-eq-TFEND c = search tests

pub returns-else-e-eq-TFEND : goal.returns-else-e-eq-TFEND
returns-else-e-eq-TFEND c = search tests
