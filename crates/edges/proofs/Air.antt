-- Proved: what frames from the air leave at the edges of document 01's rules. Assumes nothing.
use mathlib.Core.Path.{refl}
use Rattle.choice.specs.Pick.{pick, and}
use Rattle.outgoing.specs.Message.{sound_message}
use Rattle.crc.specs.Crc.{shift_bit, shift_byte, crc_byte, crc_from, crc_of}
use Rattle.lsf_layout.specs.Bits.{bits_at}
use Rattle.lsf_layout.specs.Bytes.{type_field}
use Rattle.lsf_layout.specs.Lsf.{field_of}
use Rattle.protocol.specs.Kinds.{mode_of}
use Rattle.kiss_layout.specs.Escape.{esc_byte, esc}
use Rattle.kiss_layout.specs.Frame.{frame}
use Rattle.lich.specs.Lich.{heard_count, with_segment}
use Rattle.radio.specs.Radio.{sound_radio, hears_by, unless_sending}
use Rattle.tnc_air.specs.Collected.{collected_after, collected_at}
use Rattle.air_lsf.specs.Begun.{lsf_heard}
use Rattle.tnc_stream.specs.Stream.{acquired, ranged, stream_heard}
use Rattle.tnc_air.specs.Heard.{finished_after, finished, packet_heard}
use Rattle.tnc_stream.specs.Restarted.{restarted}
use Rattle.tnc_stream.specs.Followed.{followed}
use Rattle.tnc_stream.specs.Acquired.{acquired_with}
use Rattle.edges.specs.Air.{Air}

pub air : Air
unfolding pick and sound_message bits_at type_field field_of mode_of heard_count with_segment shift_bit shift_byte crc_byte crc_from crc_of esc_byte esc frame sound_radio hears_by unless_sending collected_after collected_at lsf_heard restarted followed acquired_with acquired ranged stream_heard finished_after finished packet_heard
air =
    record {
      payload_put_one_on = λ r. refl;
      refusal_answered_0 = λ r count index payload. refl;
      two_counted = λ r payload. refl;
      message_store_of_1712 = (λ r. refl, refl);
      segments_one_byte_on = λ r number last bytes. refl;
      packet_lsf_put_one_on = refl;
      stream_begins_at_1 = refl;
      end_ignored = λ r index segment bytes rx out. (refl, refl);
      gathered_number_expected = λ r out. refl;
      segments_not_written = λ bytes. refl;
      whole_last_frame_told = refl;
    }
