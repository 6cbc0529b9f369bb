-- Proved: what a read for the modulator says at its edges, each by computing. Assumes nothing.
use mathlib.Core.Path.{refl}
use Rattle.choice.specs.Pick.{pick, and}
use Rattle.choice.specs.Cases.{all_pass}
use Rattle.channel.specs.Access.{sound_channel, check_later, accessed}
use Rattle.packets.specs.Queue.{sound_place, sound_queue as sound_packets, is_empty}
use Rattle.streams.specs.Queue.{sound_queue as sound_streams}
use Rattle.sending.specs.Sending.{sound_sending, wants_to_send}
use Rattle.tx_begin.specs.Begin.{keyed_up, begun}
use Rattle.tnc_modulator.specs.Modulator.{all_sound, tx_read}
use Rattle.edges.specs.Sending.{Transmissions}

pub transmissions : Transmissions
unfolding tx_read all_sound sound_sending sound_packets sound_place all_pass sound_streams sound_channel begun keyed_up wants_to_send is_empty accessed check_later and pick
transmissions =
    record {
      no_packet_frame_has_an_index = λ a n s q c f. n f;
      no_stream_frame_ends = λ a n s q c f. n f;
      no_stream_frame_has_a_number = λ a s q c. refl;
      channel_not_asked = λ s p d. refl;
      empty_queues_key_up = λ s l d c. refl;
      preamble_without_delay = λ s p d. refl;
      stream_store_of_229 = (λ s q c. refl, refl);
    }
