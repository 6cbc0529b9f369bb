-- Proved: what the channel, the states, their saved numbers and the message to the host say at their edges, each by computing. Assumes nothing.
use mathlib.Core.Path.{refl}
use Rattle.choice.specs.Pick.{pick, and}
use Rattle.channel.specs.Access.{sound_channel, clock_set, carrier_set, duplex_set, accessed}
use Rattle.tnc_link.specs.Numbers.{valid_state, state_of, state_read}
use Rattle.outgoing.specs.Message.{sound_message, read_up_to, host_read}
use Rattle.edges.specs.States.{Channels, States, Saved, Messages}

pub channels : Channels
unfolding clock_set carrier_set duplex_set accessed sound_channel and pick
channels =
    record {
      new_waits = refl;
      carrier_with_the_clock = λ w d. refl;
      duplex_drops_the_check = λ b. refl;
      carrier_always_heard = λ w d. refl;
      duplex_never_on = λ b w. refl;
    }

pub states : States
states =
    record {
      ptt_off_while_ending = λ end. refl;
      ptt_on_while_a_stream_is_heard = λ expected. refl;
      mask_of_64 = (refl, refl);
      clock_ends_all = λ now. refl;
    }

pub saved : Saved
unfolding valid_state state_of state_read and pick
saved = record { ending_restored_as_packet = refl; expected_cut_to_a_byte = refl; idle_has_a_value = refl }

pub messages : Messages
unfolding host_read sound_message read_up_to and pick
messages = record { counts_nothing = λ b r. refl; one_byte_on = λ b r s. refl; past_the_room = (λ b. refl, λ b c r. refl) }
