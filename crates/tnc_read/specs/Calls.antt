-- The TNC's call for bytes to the host on its record and the stores: it tests its store (7) and all of the record (8), and then does what its part does, from document 01's
-- "The TNC" and "Answer numbers". Assumes nothing.
use Rattle.std.specs.Prelude.{ℕ, List, eqb, length, Err}
use Rattle.choice.specs.Pick.{pick}
use Rattle.room.specs.declared.LentError.{LentError}
use Rattle.room.specs.declared.LentError.TheVariants.{WrongStore, OutOfBounds}
use Rattle.outgoing.specs.declared.HostRead.{HostRead}
use Rattle.outgoing.specs.declared.Outgoing.{Outgoing}
use Rattle.outgoing.specs.Message.{host_read}
use Rattle.radio.specs.Radio.{MESSAGE}
use Rattle.tnc_core.specs.declared.Tnc.{Tnc}
use Rattle.tnc_core.specs.Tnc.{sound_tnc, with_radio}
use Rattle.tnc_read.specs.declared.TncRead.{TncRead}

abbrev pub not_read : LentError → Tnc → TncRead
not_read e t = record { answer = Err e; tnc = t }

-- what is read of the message leaves the rest of it
abbrev pub with_message : Tnc → Outgoing → Tnc
with_message t o = with_radio t (record { state = t.radio.state; outgoing = o })

abbrev pub has_read : Tnc → HostRead → TncRead
has_read t r = record { answer = r.answer; tnc = with_message t r.outgoing }

unfoldable pub tnc_read : Tnc → List ℕ → List ℕ → TncRead × List ℕ
tnc_read t message target =
    pick (eqb (length message) MESSAGE)
    (pick (sound_tnc t)
    (let r = host_read t.radio.outgoing message target in (has_read t r.0, r.1))
    (not_read OutOfBounds t, target))
    (not_read WrongStore t, target)
