-- The promises of specs/Promises.antt are kept. Assumes nothing.
use mathlib.Core.Path.{refl, ap}
use lib.ListN.{replicate}
use Rattle.choice.specs.Pick.{pick, and, and_both}
use Rattle.outgoing.specs.Message.{sound_message}
use Rattle.sending.specs.Sending.{sound_sending, wants_to_send}
use Rattle.packets.specs.Queue.{is_empty as no_packet}
use Rattle.packets.proofs.Kept as packets
use Rattle.streams.proofs.Kept as streams
use Rattle.streams.specs.Queue.{STORE as STREAMS, empty_queue as no_stream}
use Rattle.radio.specs.Radio.{sound_radio}
use Rattle.std.specs.Prelude.{Ok}
use Rattle.tnc_core.specs.Tnc.{sound_tnc, ptt_of, with_radio}
use Rattle.tnc_core.specs.Promises.{NewIsSound, NewIsEmpty, WithRadioIsSound, PttIsTheState}
use Rattle.tnc_core.proofs.Bounds.{parts, joined}

pub new_is_sound : NewIsSound
unfolding sound_tnc sound_sending sound_radio sound_message pick and
new_is_sound = and_both refl (and_both (and_both packets.new_is_sound (streams.new_is_sound (replicate STREAMS 0) refl).its_state) refl)

pub new_is_empty : NewIsEmpty
unfolding no_packet no_stream wants_to_send pick and
new_is_empty = (refl, refl, refl)

pub with_radio_is_sound : WithRadioIsSound
with_radio_is_sound t r e s = let p = parts t e in joined (with_radio t r) (record { its_filled = p.its_filled; its_sending = p.its_sending; its_radio = s; its_ptt = refl })

pub ptt_is_the_state : PttIsTheState
unfolding ptt_of pick
ptt_is_the_state t e = rw e (ap Ok (parts t e).its_ptt)
