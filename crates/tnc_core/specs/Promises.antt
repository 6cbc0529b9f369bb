-- What is promised of the TNC's record, from document 01. Each is proved in proofs/Kept.antt. Assumes nothing.
use Rattle.std.specs.Prelude.{true, false, ◌≡◌, Ok}
use Rattle.packets.specs.Queue.{is_empty as no_packet}
use Rattle.streams.specs.Queue.{empty_queue as no_stream}
use Rattle.sending.specs.Sending.{wants_to_send}
use Rattle.state.specs.State.{transmits}
use Rattle.radio.specs.declared.Radio.{Radio}
use Rattle.radio.specs.Radio.{sound_radio}
use Rattle.tnc_core.specs.declared.Tnc.{Tnc}
use Rattle.tnc_core.specs.Tnc.{new_tnc, sound_tnc, ptt_of, with_radio}

abbrev pub NewIsSound : Type 0
NewIsSound = sound_tnc new_tnc ≡ true

-- a new TNC has nothing to send: no packet, no stream frame, no LSF
abbrev pub NewIsEmpty : Type 0
NewIsEmpty = (no_packet new_tnc.sending.packets ≡ true) × (no_stream new_tnc.sending.streams ≡ true) × (wants_to_send new_tnc.sending ≡ false)

-- with another sound radio a sound TNC is sound
abbrev pub WithRadioIsSound : Type 0
WithRadioIsSound = (t : Tnc) (r : Radio) → sound_tnc t ≡ true → sound_radio r ≡ true → sound_tnc (with_radio t r) ≡ true

-- PTT is on exactly in the five transmit states
abbrev pub PttIsTheState : Type 0
PttIsTheState = (t : Tnc) → sound_tnc t ≡ true → ptt_of t ≡ Ok (transmits t.radio.state)
