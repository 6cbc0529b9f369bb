-- Proved: what a new TNC is and what its calls answer to stores of another length. Assumes nothing.
use mathlib.Core.Path.{refl}
use Rattle.choice.specs.Pick.{pick, and}
use Rattle.choice.specs.Cases.{all_pass}
use Rattle.channel.specs.Access.{sound_channel}
use Rattle.outgoing.specs.Message.{sound_message}
use Rattle.packets.specs.Queue.{sound_place, sound_queue as sound_packets}
use Rattle.streams.specs.Queue.{sound_queue as sound_streams}
use Rattle.sending.specs.Sending.{sound_sending}
use Rattle.radio.specs.Radio.{sound_radio}
use Rattle.kiss_reader.specs.Reader.{flush, is_full, refused, kept_back, takes}
use Rattle.kiss_calls.specs.Calls.{sound_buffer, writes, written}
use Rattle.host_record.specs.Host.{sound_host}
use Rattle.tnc_core.specs.Tnc.{sound_tnc}
use Rattle.tnc.specs.Bytes.{kiss_written}
use Rattle.tnc.specs.Calls.{tnc_written}
use Rattle.edges.specs.Calls.{Calls}

pub calls : Calls
unfolding pick and all_pass sound_channel sound_message sound_place sound_packets sound_streams sound_sending sound_radio flush is_full refused kept_back takes sound_buffer writes written sound_host sound_tnc kiss_written tnc_written
calls =
    record {
      new_has_a_delay = refl;
      new_has_a_message = refl;
      new_has_an_lsf = refl;
      new_starts_apart = (refl, refl, refl);
      new_has_a_frame = (refl, refl, refl);
      message_store_not_tested = (λ t. refl, refl);
      stream_store_not_looked_at = (λ b h buf. refl, refl);
      reader_store_of_3420 = (λ t c buf. refl, refl);
    }
