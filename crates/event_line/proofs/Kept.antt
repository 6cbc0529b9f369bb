-- The promises are kept. Assumes nothing.
use mathlib.Core.Path.{refl}
use Rattle.choice.specs.Pick.{pick}
use Rattle.event_line.specs.Line.{hex_digit, hex_of, flag, tail_of, line_of}
use Rattle.event_line.specs.Promises.{Lines}

pub lines : Lines
unfolding line_of hex_of hex_digit flag tail_of pick
lines = record { host = refl; preamble = refl; unknown = refl }
