-- Proved: what frames and bytes from the host do, and what a read of a message leaves, at their edges, by computation. Assumes nothing.
use mathlib.Core.Path.{refl}
use Rattle.choice.specs.Pick.{pick, and}
use Rattle.choice.specs.Cases.{all_pass}
use Rattle.kiss_layout.specs.Scan.{stretch, after_fends}
use Rattle.kiss_layout.specs.Unescape.{codes, lay, unescaped}
use Rattle.kiss_layout.specs.Read.{decoded}
use Rattle.kiss_reader.specs.Reader.{flush, is_full, refused, kept_back, takes}
use Rattle.kiss_calls.specs.Calls.{sound_buffer, writes, written}
use Rattle.outgoing.specs.Message.{sound_message, read_up_to, host_read}
use Rattle.packets.specs.Frames.{zeros}
use Rattle.packets.specs.Queue.{sound_place, sound_queue as sound_packets, basic, made_basic, with_packet, obeyed, pushing, pushed_basic}
use Rattle.streams.specs.Queue.{sound_queue as sound_streams, queued, data_pushed, payload_pushed, pushed}
use Rattle.sending.specs.Sending.{sound_sending}
use Rattle.channel.specs.Access.{sound_channel, duplex_set}
use Rattle.host_record.specs.Host.{sound_host}
use Rattle.host_frame.specs.Setting.{setting_from, setting_in}
use Rattle.host_frame.specs.Data.{data_taken}
use Rattle.tnc.specs.Bytes.{kiss_written}
use Rattle.edges.specs.Host.{FromHost, ToHost}

pub from_host : FromHost
unfolding pick and all_pass stretch after_fends codes lay unescaped decoded flush is_full refused kept_back takes sound_buffer writes written zeros sound_place sound_packets basic made_basic with_packet obeyed pushing pushed_basic sound_streams queued data_pushed payload_pushed pushed sound_sending sound_channel duplex_set sound_host setting_from setting_in data_taken kiss_written
from_host = record {
  port_0_as_full = λ packets streams p. rw p;
  port_2_as_full = λ packets streams s. rw s;
  delay_not_as_told = λ h. refl;
  duplex_turned = (refl, refl);
  claims_no_byte = λ reader packets streams r p s. rw (r, p, s);
}

pub to_host_lem : ToHost
unfolding pick and sound_message read_up_to host_read
to_host_lem = record { never_gone = λ store room s. rw s; rest_lost = λ store room s. rw s }
