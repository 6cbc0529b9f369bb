-- The TNC's record with its bounds, from document 01's "Bounds for 8" and m17core's tnc.rs. Assumes nothing.
use Rattle.std.specs.Prelude.{ℕ, Bool, false, not, leb, Result, Ok, Err}
use Rattle.choice.specs.Pick.{pick, and}
use Rattle.kiss_reader.specs.Reader.{STORE as READER, new_reader}
use Rattle.kiss_calls.specs.Calls.{buffer_of}
use Rattle.outgoing.specs.Message.{no_message}
use Rattle.sending.specs.Sending.{new_sending, sound_sending}
use Rattle.state.specs.declared.State.{State}
use Rattle.state.specs.declared.State.TheVariants.{Idle}
use Rattle.state.specs.State.{transmits}
use Rattle.radio.specs.declared.Radio.{Radio}
use Rattle.radio.specs.Radio.{sound_radio}
use Rattle.tnc_core.specs.declared.Tnc.{Tnc}
use Rattle.room.specs.Room.{lent_number}
use Rattle.room.specs.declared.LentError.{LentError}
use Rattle.room.specs.declared.LentError.TheVariants.{OutOfBounds}

abbrev pub new_tnc : Tnc
new_tnc = record { buffer = buffer_of new_reader; sending = new_sending; radio = record { state = Idle; outgoing = no_message }; ptt = false }

-- filled at most 1,713; each part within its bounds; PTT on exactly in the five transmit states
unfoldable pub sound_tnc : Tnc → Bool
sound_tnc t =
    and (leb t.buffer.filled READER)
    (and (sound_sending t.sending) (and (sound_radio t.radio) (pick (transmits t.radio.state) t.ptt (not t.ptt))))

unfoldable pub ptt_of : Tnc → Result Bool LentError
ptt_of t = pick (sound_tnc t) (Ok t.ptt) (Err OutOfBounds)

-- with another radio, and with another state
abbrev pub with_radio : Tnc → Radio → Tnc
with_radio t r = record { buffer = t.buffer; sending = t.sending; radio = r; ptt = transmits r.state }

abbrev pub with_state : Tnc → State → Tnc
with_state t s = with_radio t (record { state = s; outgoing = t.radio.outgoing })

-- document 01's number of PTT's answer
abbrev pub ptt_number : Result Bool LentError → ℕ
ptt_number (Ok on) = 0
ptt_number (Err e) = lent_number e
