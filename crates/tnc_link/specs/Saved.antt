-- The TNC's record as a host in C or Rust keeps it, without enums, and an event applied to it, from document 01's "Event program" and "Bounds for 8". Assumes nothing.
use Rattle.std.specs.Prelude.{ℕ, Bool, false, List}
use Rattle.choice.specs.Pick.{pick}
use Rattle.channel.specs.Access.{new_channel}
use Rattle.tnc_core.specs.Tnc.{new_tnc}
use Rattle.channel.specs.declared.Channel.{Channel}
use Rattle.kiss_calls.specs.declared.KissBuffer.{KissBuffer}
use Rattle.outgoing.specs.declared.Outgoing.{Outgoing}
use Rattle.sending.specs.declared.Sending.{Sending}
use Rattle.state.specs.declared.State.{State}
use Rattle.event_answer.specs.declared.EventBox.{EventBox}
use Rattle.event_answer.specs.declared.Applied.{Applied}
use Rattle.event_step.specs.Step.{Turn, applied, world_of}
use Rattle.tnc_link.specs.Numbers.{state_kind, state_value, valid_state, state_of}
use Rattle.tnc_link.specs.declared.Saved.{Saved}
use Rattle.tnc_link.specs.declared.EventAnswer.{EventAnswer}

-- ---- the record

abbrev pub saved_of : EventBox → Saved
saved_of b =
    record {
      buffer = b.tnc.buffer;
      sending = b.tnc.sending;
      state = state_kind b.tnc.radio.state;
      value = state_value b.tnc.radio.state;
      outgoing = b.tnc.radio.outgoing;
      ptt = b.tnc.ptt;
      channel = b.channel;
    }

-- the TNC and its channel, of their parts
abbrev pub box_of : KissBuffer → Sending → State → Outgoing → Bool → Channel → EventBox
box_of buffer sending state outgoing ptt channel =
    record { tnc = record { buffer = buffer; sending = sending; radio = record { state = state; outgoing = outgoing }; ptt = ptt }; channel = channel }

abbrev pub restored : Saved → EventBox
restored s = box_of s.buffer s.sending (state_of s.state s.value) s.outgoing s.ptt s.channel

abbrev pub new_saved : Saved
new_saved = saved_of (record { tnc = new_tnc; channel = new_channel })

-- ---- an event

-- what it answers and leaves
pub record Event : Type 0 where
  pub answer : EventAnswer
  pub reader : List ℕ
  pub packets : List ℕ
  pub streams : List ℕ
  pub rx : List ℕ
  pub message : List ℕ
  pub bytes : List ℕ

abbrev pub saved_turn : EventAnswer → List ℕ → List ℕ → List ℕ → List ℕ → List ℕ → List ℕ → Event
saved_turn a reader packets streams rx message bytes =
    record { answer = a; reader = reader; packets = packets; streams = streams; rx = rx; message = message; bytes = bytes }

abbrev pub told : Applied → EventAnswer
told r = record { number = r.number; count = r.count; ptt = r.ptt; saved = saved_of r.after }

-- of a state that is none, 8, with nothing changed; PTT is then not known, and told as off
abbrev pub refusal : Saved → EventAnswer
refusal s = record { number = 8; count = 0; ptt = false; saved = s }

abbrev pub of_turn : Turn → Event
of_turn t =
    record {
      answer = record { number = t.number; count = t.count; ptt = t.ptt; saved = saved_of (record { tnc = t.world.tnc; channel = t.world.channel }) };
      reader = t.world.reader;
      packets = t.world.packets;
      streams = t.world.streams;
      rx = t.world.rx;
      message = t.world.message;
      bytes = t.bytes;
    }

unfoldable pub event_on : Saved → ℕ → List ℕ → List ℕ → List ℕ → List ℕ → List ℕ → List ℕ → List ℕ → Event
event_on s kind body reader packets streams rx message bytes =
    pick (valid_state s.state s.value) (of_turn (applied kind body (world_of (restored s) reader packets streams rx message) bytes))
    (saved_turn (refusal s) reader packets streams rx message bytes)
