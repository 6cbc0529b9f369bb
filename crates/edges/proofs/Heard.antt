-- Proved: the states that stream and packet frames from the air lead to at their edges, by computation. Assumes nothing.
use mathlib.Core.Path.{refl}
use Rattle.choice.specs.Pick.{pick, and}
use Rattle.crc.specs.Crc.{shift_bit, shift_byte, crc_byte, crc_from, crc_of}
use Rattle.lsf_layout.specs.Bits.{bits_at, with_bits_at}
use Rattle.lich.specs.Lich.{heard_count, with_segment}
use Rattle.tnc_stream.specs.Restarted.{restarted}
use Rattle.tnc_air.specs.Collected.{collected_after, collected_at}
use Rattle.tnc_stream.specs.Followed.{followed}
use Rattle.tnc_stream.specs.Acquired.{acquired_with}
use Rattle.edges.specs.Heard.{Streams, Packets}

pub streams : Streams
unfolding pick and shift_bit shift_byte crc_byte crc_from crc_of bits_at with_bits_at heard_count with_segment restarted acquired_with followed
streams = record {
  expected_number_restarts = λ r rx out. (refl, refl);
  same_number_expected = λ r rx out. refl;
  five_are_enough = λ r out. (refl, refl, refl);
  restart_keeps_segment_0 = λ r rx. refl;
  segment_put_first = λ r. refl;
}

pub packets : Packets
unfolding pick collected_after collected_at
packets = record { earlier_index_taken = λ r payload rx l. rw l; index_32_taken = λ r payload rx l. (rw l, rw l) }
