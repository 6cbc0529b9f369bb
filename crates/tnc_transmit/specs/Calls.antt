-- The TNC's read for the modulator: it tests its stores (7) and all of the record (8), and then gives what the modulator's read gives, from document 01's "To the modulator"
-- and "Answer numbers". Assumes nothing.
use Rattle.std.specs.Prelude.{ℕ, List, eqb, length, Err}
use Rattle.choice.specs.Pick.{pick}
use Rattle.channel.specs.declared.Channel.{Channel}
use Rattle.room.specs.declared.LentError.{LentError}
use Rattle.room.specs.declared.LentError.TheVariants.{WrongStore, OutOfBounds}
use Rattle.packets.specs.Queue.{STORE as PACKETS}
use Rattle.streams.specs.Queue.{STORE as STREAMS}
use Rattle.state.specs.State.{transmits}
use Rattle.tx_frame.specs.declared.TxRead.{TxRead}
use Rattle.tnc_modulator.specs.Modulator.{tx_read}
use Rattle.tnc_core.specs.declared.Tnc.{Tnc}
use Rattle.tnc_core.specs.Tnc.{sound_tnc}
use Rattle.tnc_transmit.specs.declared.TncTx.{TncTx}

abbrev pub not_given : LentError → Tnc → Channel → TncTx
not_given e t c = record { answer = Err e; tnc = t; channel = c }

-- a read changes the state, what waits to be sent and the channel; PTT follows the state
abbrev pub put_given : Tnc → TxRead → TncTx
put_given t r =
    record {
      answer = r.answer;
      tnc = record { buffer = t.buffer; sending = r.sending; radio = record { state = r.state; outgoing = t.radio.outgoing }; ptt = transmits r.state };
      channel = r.channel;
    }

unfoldable pub tnc_tx : Tnc → Channel → List ℕ → List ℕ → TncTx
tnc_tx t c packets streams =
    pick (eqb (length packets) PACKETS)
    (pick (eqb (length streams) STREAMS)
    (pick (sound_tnc t) (put_given t (tx_read t.radio.state t.sending c packets streams)) (not_given OutOfBounds t c))
    (not_given WrongStore t c))
    (not_given WrongStore t c)
