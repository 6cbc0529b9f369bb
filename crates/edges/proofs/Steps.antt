-- Proved: what the event program's events 01 to 04 and 09 answer and print at their edges, by computation. Assumes nothing.
use mathlib.Core.Path.{refl}
use Rattle.choice.specs.Pick.{pick, and}
use Rattle.choice.specs.Cases.{all_pass}
use Rattle.channel.specs.Access.{sound_channel, clock_set, carrier_set}
use Rattle.kiss_layout.specs.Scan.{stretch, after_fends}
use Rattle.kiss_reader.specs.Reader.{from_fend, settle, flush, front, next, is_full, refused}
use Rattle.kiss_calls.specs.Calls.{sound_buffer, writes, written}
use Rattle.outgoing.specs.Message.{sound_message, host_read}
use Rattle.packets.specs.Queue.{sound_place, sound_queue as sound_packets}
use Rattle.streams.specs.Queue.{sound_queue as sound_streams}
use Rattle.sending.specs.Sending.{sound_sending}
use Rattle.radio.specs.Radio.{sound_radio}
use Rattle.host_record.specs.Host.{sound_host}
use Rattle.tnc_core.specs.Tnc.{sound_tnc}
use Rattle.tnc_clock.specs.Clock.{now_set, end_time_set}
use Rattle.tnc.specs.Bytes.{kiss_written}
use Rattle.tnc.specs.Calls.{tnc_written}
use Rattle.tnc_read.specs.Calls.{tnc_read}
use Rattle.any_calls.specs.Calls.{after, number}
use Rattle.event_input.specs.Events.{body_len}
use Rattle.event_step.specs.Step.{call_of, bytes_after, number_of, made, not_made, applied}
use Rattle.edges.specs.Steps.{Times, Hosts}

pub times : Times
unfolding pick and all_pass sound_channel clock_set carrier_set sound_message sound_place sound_packets sound_streams sound_sending sound_radio sound_tnc now_set end_time_set after number body_len call_of number_of made not_made applied
times =
    record {
      carrier_0_is_on = λ w b p d. (refl, refl);
      clock_of_9_bytes = λ w. (refl, refl);
      clock_over_its_limit_is_8 = λ w. (refl, refl);
      end_time_of_5_bytes = λ w. (refl, refl);
    }

pub hosts : Hosts
unfolding pick and all_pass sound_channel stretch after_fends from_fend settle flush front next is_full refused sound_buffer writes written sound_message host_read sound_place sound_packets sound_streams sound_sending sound_radio sound_host sound_tnc kiss_written tnc_written tnc_read number body_len call_of bytes_after number_of made applied
hosts =
    record {
      full_reader_is_0 = λ w b p s. rw (p, s);
      host_byte_prints_a_byte = λ w b. refl;
      more_than_asked = λ w a b. (refl, refl);
      read_not_counted = λ c t bytes room. (λ n. refl, λ e. refl);
    }
