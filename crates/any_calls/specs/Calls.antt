-- The calls of the TNC, one after the other, by the definitions that their contracts cite, where the caller hands back each store, state and record as the last call left
-- it, from document 01's "What the contracts have to say". Assumes nothing.
use Rattle.std.specs.Prelude.{ℕ, Bool, List, [], ◌∷◌}
use Rattle.protocol.specs.declared.PacketFrame.{PacketFrame}
use Rattle.protocol.specs.declared.StreamFrame.{StreamFrame}
use Rattle.channel.specs.declared.Channel.{Channel}
use Rattle.channel.specs.Access.{new_channel, carrier_set, set_number}
use Rattle.kiss_calls.specs.Calls.{write_number}
use Rattle.outgoing.specs.Message.{host_number}
use Rattle.radio.specs.declared.Heard.{Heard}
use Rattle.radio.specs.Radio.{air_number}
use Rattle.air_lsf.specs.Begun.{lsf_heard}
use Rattle.tnc_air.specs.Heard.{packet_heard}
use Rattle.tnc_stream.specs.Stream.{stream_heard}
use Rattle.tnc_modulator.specs.Modulator.{tx_number}
use Rattle.tnc_core.specs.declared.Tnc.{Tnc}
use Rattle.tnc_clock.specs.declared.Timed.{Timed}
use Rattle.tnc_core.specs.Tnc.{new_tnc, ptt_of, ptt_number}
use Rattle.tnc_clock.specs.Clock.{now_set, end_time_set}
use Rattle.tnc.specs.declared.TncWritten.{TncWritten}
use Rattle.tnc_read.specs.declared.TncRead.{TncRead}
use Rattle.tnc_receive.specs.declared.TncHeard.{TncHeard}
use Rattle.tnc_transmit.specs.declared.TncTx.{TncTx}
use Rattle.tnc.specs.Calls.{tnc_written}
use Rattle.tnc_read.specs.Calls.{tnc_read}
use Rattle.tnc_receive.specs.Calls.{air_heard}
use Rattle.tnc_transmit.specs.Calls.{tnc_tx}

-- the TNC's record, the channel and the five stores
pub record World : Type 0 where
  pub tnc : Tnc
  pub channel : Channel
  pub reader : List ℕ
  pub packets : List ℕ
  pub streams : List ℕ
  pub rx : List ℕ
  pub message : List ℕ

-- a new TNC and channel, whatever stands in the stores
abbrev pub new_world : List ℕ → List ℕ → List ℕ → List ℕ → List ℕ → World
new_world reader packets streams rx message =
    record { tnc = new_tnc; channel = new_channel; reader = reader; packets = packets; streams = streams; rx = rx; message = message }

-- one constructor for each public call, of handle_frame one for each kind of frame, with what it is handed beside the world
pub data Call : Type 0 where
  write_kiss : (buf : List ℕ) → Call
  read_kiss : (target : List ℕ) → Call
  handle_lsf : (lsf : List ℕ) → Call
  handle_packet : (frame : PacketFrame) → Call
  handle_stream : (frame : StreamFrame) → Call
  set_data_carrier_detect : (dcd : Bool) → Call
  set_now : (samples : ℕ) → Call
  set_tx_end_time : (samples : ℕ) → Call
  ptt : Call
  read_tx_frame : Call

-- ---- what each gives

abbrev pub writes : World → List ℕ → TncWritten × List ℕ × List ℕ × List ℕ
writes w buf = tnc_written w.tnc w.channel buf w.reader w.packets w.streams

abbrev pub reads : World → List ℕ → TncRead × List ℕ
reads w target = tnc_read w.tnc w.message target

-- a frame from the air, by what the radio does with it
abbrev pub hears : World → Heard × List ℕ × List ℕ → TncHeard × List ℕ × List ℕ
hears w h = air_heard w.tnc w.rx w.message h

abbrev pub lsf_in : World → List ℕ → Heard × List ℕ × List ℕ
lsf_in w lsf = lsf_heard w.tnc.radio lsf w.rx w.message

abbrev pub packet_in : World → PacketFrame → Heard × List ℕ × List ℕ
packet_in w f = packet_heard w.tnc.radio f w.rx w.message

abbrev pub stream_in : World → StreamFrame → Heard × List ℕ × List ℕ
stream_in w f = stream_heard w.tnc.radio f w.rx w.message

abbrev pub gives : World → TncTx
gives w = tnc_tx w.tnc w.channel w.packets w.streams

-- ---- the world after a call

abbrev pub after_write : World → TncWritten × List ℕ × List ℕ × List ℕ → World
after_write w r = record { tnc = r.0.tnc; channel = r.0.channel; reader = r.1; packets = r.2; streams = r.3; rx = w.rx; message = w.message }

abbrev pub with_tnc : World → Tnc → World
with_tnc w t = record { tnc = t; channel = w.channel; reader = w.reader; packets = w.packets; streams = w.streams; rx = w.rx; message = w.message }

abbrev pub after_heard : World → TncHeard × List ℕ × List ℕ → World
after_heard w r = record { tnc = r.0.tnc; channel = w.channel; reader = w.reader; packets = w.packets; streams = w.streams; rx = r.1; message = r.2 }

abbrev pub with_both : World → Tnc → Channel → World
with_both w t c = record { tnc = t; channel = c; reader = w.reader; packets = w.packets; streams = w.streams; rx = w.rx; message = w.message }

abbrev pub after_timed : World → Timed → World
after_timed w r = with_both w r.tnc r.channel

unfoldable pub after : World → Call → World
after w (write_kiss buf) = after_write w (writes w buf)
after w (read_kiss target) = with_tnc w (reads w target).0.tnc
after w (handle_lsf lsf) = after_heard w (hears w (lsf_in w lsf))
after w (handle_packet f) = after_heard w (hears w (packet_in w f))
after w (handle_stream f) = after_heard w (hears w (stream_in w f))
after w (set_data_carrier_detect dcd) = with_both w w.tnc (carrier_set w.channel dcd).channel
after w (set_now samples) = after_timed w (now_set w.tnc w.channel samples)
after w (set_tx_end_time samples) = after_timed w (end_time_set w.tnc w.channel samples)
after w ptt = w
after w read_tx_frame = with_both w (gives w).tnc (gives w).channel

-- document 01's number of its answer
unfoldable pub number : World → Call → ℕ
number w (write_kiss buf) = write_number (writes w buf).0.answer
number w (read_kiss target) = host_number (reads w target).0.answer
number w (handle_lsf lsf) = air_number (hears w (lsf_in w lsf)).0.answer
number w (handle_packet f) = air_number (hears w (packet_in w f)).0.answer
number w (handle_stream f) = air_number (hears w (stream_in w f)).0.answer
number w (set_data_carrier_detect dcd) = set_number (carrier_set w.channel dcd).answer
number w (set_now samples) = set_number (now_set w.tnc w.channel samples).answer
number w (set_tx_end_time samples) = set_number (end_time_set w.tnc w.channel samples).answer
number w ptt = ptt_number (ptt_of w.tnc)
number w read_tx_frame = tx_number (gives w).answer

-- any calls, one after the other
unfoldable pub run : World → List Call → World
run w [] = w
run w (c ∷ cs) = run (after w c) cs
