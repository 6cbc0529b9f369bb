-- Proved: the counters of a packet's frames at 25 and 26 bytes, by computation. Assumes nothing.
use mathlib.Core.Path.{refl}
use Rattle.choice.specs.Pick.{pick}
use Rattle.packets.specs.Frames.{chunk}
use Rattle.edges.specs.Cut.{Cut}

pub cut : Cut
unfolding pick chunk
cut = record { final_of_24 = λ index byte. (refl, refl); index_one_off = λ byte. refl }
