-- Proved: what the queues of stream frames and of packets say at their edges, each by computing. Assumes nothing.
use mathlib.Core.Path.{refl}
use Rattle.choice.specs.Pick.{pick, and}
use Rattle.choice.specs.Cases.{all_pass}
use Rattle.crc.specs.Crc.{shift_bit, shift_byte, crc_byte, crc_from, crc_of, sealed}
use Rattle.protocol.specs.Basic.{bytes_of as number_bytes, basic_lsf}
use Rattle.kiss_layout.specs.Unescape.{codes, lay, unescaped}
use Rattle.kiss_layout.specs.Scan.{stretch, after_fends}
use Rattle.kiss_layout.specs.Read.{decoded}
use Rattle.kiss_layout.specs.Stream.{stream_of}
use Rattle.streams.specs.Layout.{bytes_of}
use Rattle.streams.specs.Queue.{sound_queue, empty_queue, unqueued, frame_read, next_read, read_next}
use Rattle.packets.specs.Frames.{zeros}
use Rattle.packets.specs.Queue.{sound_place, sound_queue as sound_packets, basic_room, basic, made_basic, obeyed, pushing, pushed_basic}
use Rattle.edges.specs.Queues.{Streams, Packets}

pub streams : Streams
unfolding read_next next_read frame_read unqueued sound_queue empty_queue bytes_of stream_of and pick
streams = record { lsf_while_empty = (refl, refl); every_other_frame = refl; number_keeps_the_end = refl }

pub packets : Packets
unfolding pushed_basic pushing obeyed made_basic basic basic_room sound_packets sound_place all_pass zeros decoded after_fends stretch unescaped codes lay basic_lsf number_bytes sealed crc_of crc_from crc_byte shift_byte shift_bit and pick
packets = record { type_byte_01 = refl }
