-- Proved: numbers, a line without room and a block with room for no longest line, by computation. Assumes nothing.
use mathlib.Core.Path.{refl}
use Rattle.choice.specs.Pick.{pick, and}
use Rattle.event_step.specs.Numbers.{behind}
use Rattle.event_input.specs.Events.{known, body_len}
use Rattle.event_line.specs.Line.{hex_of, tail_of, line_of, written}
use Rattle.event_step.specs.Step.{not_made, applied}
use Rattle.event_block.specs.Spot.{stepped}
use Rattle.event_block.specs.Block.{complete, ready, walk, block_run}
use Rattle.edges.specs.Lines.{Numbers, Lines}

pub numbers : Numbers
unfolding behind
numbers = record { counts_255 = refl; low_byte_first = refl }

pub lines : Lines
unfolding pick and known body_len hex_of tail_of line_of written not_made applied stepped complete ready walk block_run
lines = record { line_at_the_front = λ w. refl; room_for_255 = λ w bytes room more b l m. (rw (b, l), rw (b, m)) }
