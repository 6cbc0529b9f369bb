-- Proved: what the clock and the numbers of saved states give at their edges, by computation. Assumes nothing.
use mathlib.Core.Path.{refl}
use Rattle.choice.specs.Pick.{pick, and}
use Rattle.tnc_link.specs.Numbers.{valid_state, state_of, state_read}
use Rattle.edges.specs.Clock.{Ends, Saved}

pub ends : Ends
unfolding pick
ends = record {
  a_second_end_replaces = λ first second. refl;
  end_time_drops_ptt = λ end. refl;
  over_but_transmitting = (refl, refl);
}

pub saved : Saved
unfolding pick and valid_state state_of state_read
saved = record {
  kinds_swapped = refl;
  sent_end_told_as_packet = refl;
  plain_state_has_a_value = refl;
  mask_over_a_byte = (refl, refl);
  unknown_state_idle = (refl, refl);
}
