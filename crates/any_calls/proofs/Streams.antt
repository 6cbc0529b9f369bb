-- The stream queue over any calls: what flows into it and out of it. Assumes nothing.
use Prim.{Unit}
use Prim.Native.Nat.{ℕ}
use mathlib.Core.Path.{◌≡◌, refl, sym, subst}
use mathlib.Core.List.{List, [], ◌++◌, append-nil}
use Rattle.choice.specs.Pick.{and_fst, and_snd}
use Rattle.channel.specs.declared.Channel.{Channel}
use Rattle.kiss_layout.specs.Read.{port_read, command_read}
use Rattle.protocol.specs.declared.StreamFrame.{StreamFrame}
use Rattle.packets.specs.declared.PacketQueue.{PacketQueue}
use Rattle.packets.specs.Queue.{read_next as next_piece}
use Rattle.streams.specs.declared.StreamQueue.{StreamQueue}
use Rattle.streams.specs.Queue.{pushed, read_next}
use Rattle.streams.specs.Promises.{Box, frame_in, waiting, added_by, given_by, Sound as StreamsSound}
use Rattle.streams.proofs.Kept.{push_waiting, read_waiting}
use Rattle.sending.specs.declared.Sending.{Sending}
use Rattle.sending.specs.Sending.{sound_sending}
use Rattle.state.specs.declared.State.{State}
use Rattle.state.specs.declared.Transmission.{Transmission}
use Rattle.state.specs.declared.Transmission.TheVariants.{Receiving, Stream as InStream, StreamSent, Packet as InPacket, Ending}
use Rattle.state.specs.State.{transmission_of}
use Rattle.host_record.specs.Host.{sound_host}
use Rattle.host_frame.specs.Promises.{Box as HostBox, Sound as HostSound}
use Rattle.tx_frame.specs.declared.TxRead.{TxRead}
use Rattle.tx_begin.specs.Begin.{keyed_up}
use Rattle.tx_stream.specs.Stream.{stream_read}
use Rattle.tx_packet.specs.Packet.{packet_read}
use Rattle.tnc_modulator.proofs.Outcomes.{Passed, none_waits, held_back, is_keyed_up, in_stream, stream_over, is_in_packets, ending, sound_outcome}
use Rattle.tnc_core.specs.declared.Tnc.{Tnc}
use Rattle.tnc_transmit.specs.declared.TncTx.{TncTx}
use Rattle.tnc_transmit.specs.Calls.{put_given}
use Rattle.any_calls.specs.Calls.{World, Call, gives, run}
use Rattle.any_calls.specs.Promises.{Sound, AllTyped}
use Rattle.any_calls.specs.Queues.{of_data, streams_in, brings, in_streams, read_in, over_all}
use Rattle.any_calls.proofs.Kept.{tx, tx_sound}
use Rattle.any_calls.proofs.Flow as flow
use Rattle.any_calls.proofs.Packets.{gives_as}

abbrev pub queue_box : StreamQueue → List ℕ → Box
queue_box q store = record { queue = q; store = store }

-- what is left, of which nothing more need be known
abbrev left : PacketQueue → StreamQueue → List ℕ → List ℕ → List StreamFrame
left q s packets streams = waiting (queue_box s streams)

abbrev none-known : PacketQueue → StreamQueue → Type 0
none-known q s = Unit {0}

abbrev no_frames : HostBox → List ℕ → List StreamFrame
no_frames x f = []

abbrev queued_frame : HostBox → List ℕ → List StreamFrame
queued_frame x f = added_by (pushed x.host.sending.streams f x.streams).0.answer (frame_in f)

queue_sound : (x : HostBox) → HostSound x → StreamsSound (queue_box x.host.sending.streams x.streams)
unfolding sound_host sound_sending
queue_sound x s = record { its_store = s.its_streams; its_state = and_snd _ _ (and_fst _ _ s.its_host) }

-- ---- a read for the modulator

-- where the answer is no frame of a stream, nothing is read of one
pub no_frame_lem : (k : Transmission) (r : TncTx) → given_by r.answer ≡ [] → in_streams k r ≡ []
no_frame_lem Receiving r e = refl
no_frame_lem InStream r e = e
no_frame_lem StreamSent r e = refl
no_frame_lem InPacket r e = refl
no_frame_lem Ending r e = refl

module _ (t : Tnc) (q : Sending) (c : Channel) (ps ss : List ℕ) where
  abbrev Taken : State → TxRead → Type 0
  Taken s r = waiting (queue_box q.streams ss) ≡ in_streams (transmission_of s) (put_given t r) ++ waiting (queue_box r.sending.streams ss)

  none : (s : State) (r : TxRead) → given_by r.answer ≡ [] → r.sending.streams ≡ q.streams → Taken s r
  none s r e f = rw (no_frame_lem (transmission_of s) (put_given t r) e, f) refl

  taken : (s : State) {r : TxRead} → Passed s q c ps ss r → Taken s r
  unfolding keyed_up
  taken s (none_waits off w) = none s _ refl refl
  taken s (held_back off w a) = none s _ refl refl
  taken s (is_keyed_up off w a) = none s _ refl refl
  taken s (in_stream e n) =
      let r = read_next q.streams ss in
      subst (λ (k : State). Taken k (stream_read q c r)) (sym e)
      (read_waiting (queue_box q.streams ss))
  taken s (stream_over e) = none s _ refl refl
  taken s (is_in_packets e n) = subst (λ (k : State). Taken k (packet_read q c (next_piece q.packets ps))) (sym e) refl
  taken s (ending on) = none s _ refl refl

read : (w : World) → Sound w
    → waiting (queue_box w.tnc.sending.streams w.streams) ≡ in_streams (transmission_of w.tnc.radio.state) (gives w) ++ waiting (queue_box (gives w).tnc.sending.streams w.streams)
read w s =
    let x = tx w in let e = tx_sound w s in
    subst
    (λ (r : TncTx).
    waiting (queue_box x.sending.streams x.streams) ≡ in_streams (transmission_of x.state) r ++ waiting (queue_box r.tnc.sending.streams x.streams))
    (gives_as w s)
    (taken w.tnc x.sending x.channel x.packets x.streams x.state
    (sound_outcome x.sending x.channel x.packets x.streams x.state e.its_packets e.its_streams e.its_state))

-- ---- over any calls

abbrev frames_brought : HostBox → List ℕ → List StreamFrame
frames_brought x f = of_data (no_frames x f) (no_frames x f) (queued_frame x f) (port_read f) (command_read f)

pub streams_flow : (w : World) (cs : List Call) → AllTyped cs → Sound w
    → waiting (queue_box w.tnc.sending.streams w.streams) ++ over_all (brings streams_in) w cs
    ≡ over_all (read_in in_streams) w cs ++ waiting (queue_box (run w cs).tnc.sending.streams (run w cs).streams)
unfolding streams_in
streams_flow w cs d s =
    (flow.flows left none-known no_frames no_frames queued_frame (λ x f h e. (sym (append-nil (waiting (queue_box x.host.sending.streams x.streams))), e))
    (λ x f h e. (sym (append-nil (waiting (queue_box x.host.sending.streams x.streams))), e))
    (λ x f h e. (push_waiting (queue_box x.host.sending.streams x.streams) f (queue_sound x h), e)) in_streams (λ v h e. (read v h, e)) w cs d s Prim.tt).0
