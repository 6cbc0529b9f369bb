-- That each public call of the TNC has one outcome: what its contract says of its result and of every store that it may write, and that two outcomes which meet it are equal.
-- From document 01's "What the contracts have to say". Proved in proofs/Determined.antt. Assumes nothing.
use Rattle.std.specs.Prelude.{ℕ, ◌≡◌, List, Result, Bool}
use Rattle.channel.specs.declared.ChannelSet.{ChannelSet}
use Rattle.channel.specs.Access.{carrier_set}
use Rattle.tnc_clock.specs.declared.Timed.{Timed}
use Rattle.room.specs.declared.LentError.{LentError}
use Rattle.tnc_core.specs.Tnc.{ptt_of}
use Rattle.tnc_clock.specs.Clock.{now_set, end_time_set}
use Rattle.tnc.specs.declared.TncWritten.{TncWritten}
use Rattle.tnc_read.specs.declared.TncRead.{TncRead}
use Rattle.tnc_receive.specs.declared.TncHeard.{TncHeard}
use Rattle.tnc_transmit.specs.declared.TncTx.{TncTx}
use Rattle.any_calls.specs.Calls.{World, Call, write_kiss, read_kiss, handle_lsf, handle_packet, handle_stream, set_data_carrier_detect, set_now, set_tx_end_time, ptt, read_tx_frame, writes, reads, hears, lsf_in, packet_in, stream_in, gives}

-- all that a call gives back: its result, and behind it the stores that it may write, as it leaves them
abbrev pub Outcome : Call → Type 0
Outcome (write_kiss buf) = TncWritten × List ℕ × List ℕ × List ℕ
Outcome (read_kiss target) = TncRead × List ℕ
Outcome (handle_lsf lsf) = TncHeard × List ℕ × List ℕ
Outcome (handle_packet f) = TncHeard × List ℕ × List ℕ
Outcome (handle_stream f) = TncHeard × List ℕ × List ℕ
Outcome (set_data_carrier_detect dcd) = ChannelSet
Outcome (set_now samples) = Timed
Outcome (set_tx_end_time samples) = Timed
Outcome ptt = (Result Bool LentError)
Outcome read_tx_frame = TncTx

-- what its contract says of them: `ensures` in the code, with the world for what the call is handed
abbrev pub Meets : (w : World) (c : Call) → Outcome c → Type 0
Meets w (write_kiss buf) o = o ≡ writes w buf
Meets w (read_kiss target) o = o ≡ reads w target
Meets w (handle_lsf lsf) o = o ≡ hears w (lsf_in w lsf)
Meets w (handle_packet f) o = o ≡ hears w (packet_in w f)
Meets w (handle_stream f) o = o ≡ hears w (stream_in w f)
Meets w (set_data_carrier_detect dcd) o = o ≡ carrier_set w.channel dcd
Meets w (set_now samples) o = o ≡ now_set w.tnc w.channel samples
Meets w (set_tx_end_time samples) o = o ≡ end_time_set w.tnc w.channel samples
Meets w ptt o = o ≡ ptt_of w.tnc
Meets w read_tx_frame o = o ≡ gives w

-- for every world and every call, refused ones too, two outcomes that meet the contract are equal
abbrev pub Determined : Type 0
Determined = (w : World) (c : Call) (one another : Outcome c) → Meets w c one → Meets w c another → one ≡ another
