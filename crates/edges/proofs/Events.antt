-- Proved: the event program's events and lines at the edges of document 01's "Event program". Assumes nothing.
use mathlib.Core.Path.{refl}
use Rattle.choice.specs.Pick.{pick, and}
use Rattle.choice.specs.Cases.{all_pass}
use Rattle.channel.specs.Access.{sound_channel, accessed}
use Rattle.kiss_layout.specs.Scan.{run_of}
use Rattle.outgoing.specs.Message.{sound_message, host_read}
use Rattle.packets.specs.Queue.{sound_place, sound_queue as sound_packets, is_empty, data_read, turn, walk as packet_walk, read_next}
use Rattle.streams.specs.Queue.{sound_queue as sound_streams}
use Rattle.sending.specs.Sending.{sound_sending, wants_to_send}
use Rattle.radio.specs.Radio.{sound_radio}
use Rattle.host_record.specs.Host.{stores_fit}
use Rattle.link_ready.specs.Ready.{link_fits}
use Rattle.tx_begin.specs.Begin.{keyed_up, begun}
use Rattle.tx_packet.specs.Packet.{packet_given}
use Rattle.tnc_modulator.specs.Modulator.{all_sound, tx_read}
use Rattle.tnc_core.specs.Tnc.{sound_tnc}
use Rattle.tnc_transmit.specs.Calls.{tnc_tx}
use Rattle.tnc_read.specs.Calls.{tnc_read}
use Rattle.any_calls.specs.Calls.{number}
use Rattle.event_input.specs.Events.{known, body_len, next_at}
use Rattle.event_line.specs.Line.{hex_digit, hex_of, flag, tail_of, line_of, written}
use Rattle.event_open.specs.Inside.{opened, is_open, begins, keeps, kept_run, open_run}
use Rattle.event_tx.specs.Tx.{frame_bytes, laid_out}
use Rattle.event_step.specs.Step.{call_of, number_of, made, not_made, applied}
use Rattle.edges.specs.Events.{Events}

pub events : Events
unfolding pick and all_pass sound_channel accessed run_of sound_message host_read sound_place sound_packets is_empty data_read turn packet_walk read_next sound_streams sound_sending wants_to_send sound_radio stores_fit link_fits keyed_up begun packet_given all_sound tx_read sound_tnc tnc_tx tnc_read number known body_len next_at hex_digit hex_of flag tail_of line_of written opened is_open begins keeps kept_run open_run frame_bytes laid_out call_of number_of made not_made applied
events =
    record {
      body_of_05_is_29 = (refl, refl);
      kind_low_digit_first = refl;
      one_place_on = λ kind on. refl;
      ptt_turned = (refl, refl);
      the_kind_kept = refl;
      packet_kind_3 = refl;
      delay_not_printed = refl;
      room_of_255_refused = λ n reader packets streams rx. (refl, refl);
    }
