-- `event_line::hex_digit` meets its contract. Assumes nothing.
use Rattle.choice.specs.Pick.{tests}
use Rattle.event_line.specs.Line.{hex_digit}
use Rattle.event_line.proofs.hex_digit.Goals as goal

pub returns-then-nibble-lt10 : goal.returns-then-nibble-lt10
unfolding hex_digit
returns-then-nibble-lt10 c = search tests

pub returns-else-nibble-lt10 : goal.returns-else-nibble-lt10
unfolding hex_digit
returns-else-nibble-lt10 c = search tests
