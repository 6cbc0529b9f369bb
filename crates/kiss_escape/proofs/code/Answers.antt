-- `kiss_escape::code` meets its contract. Assumes nothing.
use Rattle.choice.specs.Pick.{tests}
use Rattle.kiss_escape.proofs.code.Goals as goal

pub returns-then-b-eq-FEND : goal.returns-then-b-eq-FEND
returns-then-b-eq-FEND c = search tests

pub returns-else-b-eq-FEND : goal.returns-else-b-eq-FEND
returns-else-b-eq-FEND c = search tests
