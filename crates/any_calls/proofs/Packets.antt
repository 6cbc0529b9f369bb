-- The packet queue over any calls: what flows into it and out of it. Assumes nothing.
use Prim.Native.Nat.{ℕ}
use mathlib.Core.Bool.{Bool, true, false}
use mathlib.Core.Path.{◌≡◌, refl, sym, ap, ◌∙◌, subst}
use mathlib.Core.List.{List, [], ◌∷◌, ◌++◌, append-nil, append_assoc}
use lib.Dec.{ltb, eqb}
use lib.ListN.{length}
use borrow.Author.Tests.{eq-eqb}
use Rattle.choice.specs.Pick.{pick, and_fst}
use Rattle.channel.specs.declared.Channel.{Channel}
use Rattle.kiss_layout.specs.declared.KissCommand.TheVariants.{DataFrame, TxDelay, P, FullDuplex}
use Rattle.std.specs.Prelude.{Result, ℕ, Err, Ok}
use Rattle.kiss_layout.specs.declared.KissError.{KissError}
use Rattle.kiss_layout.specs.declared.KissCommand.{KissCommand}
use Rattle.kiss_layout.specs.Read.{port_read, command_read}
use Rattle.packets.specs.declared.PacketQueue.{PacketQueue}
use Rattle.packets.specs.Frames.{Packet, AirFrame, frames_of, joined}
use Rattle.packets.specs.Queue.{STORE as PACKETS, made_basic, made_full, pushed_basic, pushed_full, read_next, frames_in as frames_of_read}
use Rattle.packets.specs.Promises.{Sound as PacketsSound}
use Rattle.packet_rule.specs.Left.{left_of, accepted_by}
use Rattle.packet_rule.specs.Promises.{Four}
use Rattle.packet_rule.proofs.Kept.{four_stay_four, push_adds, read_takes}
use Rattle.streams.specs.declared.StreamQueue.{StreamQueue}
use Rattle.streams.specs.Queue.{STORE as STREAMS, read_next as next_frame}
use Rattle.sending.specs.declared.Sending.{Sending}
use Rattle.sending.specs.Sending.{sound_sending}
use Rattle.state.specs.declared.State.{State}
use Rattle.state.specs.declared.Transmission.{Transmission}
use Rattle.state.specs.declared.Transmission.TheVariants.{Receiving, Stream as InStream, StreamSent, Packet as InPacket, Ending}
use Rattle.state.specs.State.{transmission_of}
use Rattle.host_record.specs.Host.{sound_host}
use Rattle.host_frame.specs.Promises.{Box as HostBox, after as after_frame, Sound as HostSound}
use Rattle.tx_frame.specs.declared.TxRead.{TxRead}
use Rattle.tx_begin.specs.Begin.{keyed_up}
use Rattle.tx_stream.specs.Stream.{stream_read}
use Rattle.tx_packet.specs.Packet.{packet_read}
use Rattle.tnc_modulator.specs.Promises.{read_of}
use Rattle.tnc_modulator.proofs.Outcomes.{sound_packets_lem, Passed, none_waits, held_back, is_keyed_up, in_stream, stream_over, is_in_packets, ending, sound_outcome}
use Rattle.tnc_core.specs.declared.Tnc.{Tnc}
use Rattle.tnc_transmit.specs.declared.TncTx.{TncTx}
use Rattle.tnc_transmit.specs.Calls.{put_given, tnc_tx}
use Rattle.any_calls.specs.Calls.{World, Call, write_kiss, read_kiss, handle_lsf, handle_packet, handle_stream, set_data_carrier_detect, set_now, set_tx_end_time, ptt, read_tx_frame, writes, gives, after, run}
use Rattle.any_calls.specs.Promises.{Sound, AllTyped}
use Rattle.any_calls.specs.Queues.{of_data, packets_in, brought_by, host_of, frames_after, brings, in_packets, read_in, over_all}
use Rattle.any_calls.proofs.Kept.{tx, tx_sound}
use Rattle.any_calls.proofs.Flow as flow

-- what is left, and that the queue's array has its four places
abbrev pub left : PacketQueue → StreamQueue → List ℕ → List ℕ → List AirFrame
left q s packets streams = left_of q packets

abbrev pub four : PacketQueue → StreamQueue → Type 0
four q s = Four q

-- the frames of the packet that a frame of the host brings
abbrev pub basic_frames : HostBox → List ℕ → List AirFrame
basic_frames x f = joined (accepted_by (pushed_basic x.host.sending.packets f x.packets).0.answer (made_basic f))

abbrev pub full_frames : HostBox → List ℕ → List AirFrame
full_frames x f = joined (accepted_by (pushed_full x.host.sending.packets f x.packets).0.answer (made_full f))

abbrev pub no_frames : HostBox → List ℕ → List AirFrame
no_frames x f = []

queue_sound : (x : HostBox) → HostSound x → PacketsSound x.host.sending.packets x.packets
unfolding sound_host sound_sending
queue_sound x s = record { its_store = s.its_packets; its_state = and_fst _ _ (and_fst _ _ s.its_host) }

-- ---- a read for the modulator

-- what a read in a sound world comes to
pub gives_as : (w : World) → Sound w → put_given w.tnc (read_of (tx w)) ≡ gives w
unfolding tnc_tx pick
gives_as w s = rw (eq-eqb (length w.packets) PACKETS s.its_packets, eq-eqb (length w.streams) STREAMS s.its_streams, s.its_tnc) refl

-- where the answer is no frame of a packet, nothing is read of one
no_frame_lem : (k : Transmission) (r : TncTx) → frames_of_read r.answer ≡ [] → in_packets k r ≡ []
no_frame_lem Receiving r e = refl
no_frame_lem InStream r e = refl
no_frame_lem StreamSent r e = refl
no_frame_lem InPacket r e = e
no_frame_lem Ending r e = refl

module _ (t : Tnc) (q : Sending) (c : Channel) (ps ss : List ℕ) (sound : PacketsSound q.packets ps) (four : Four q.packets) where
  abbrev Taken : State → TxRead → Type 0
  Taken s r = (left_of q.packets ps ≡ in_packets (transmission_of s) (put_given t r) ++ left_of r.sending.packets ps) × Four r.sending.packets

  -- nothing is read and the queue stands
  none : (s : State) (r : TxRead) → frames_of_read r.answer ≡ [] → r.sending.packets ≡ q.packets → Taken s r
  none s r e f =
      rw (no_frame_lem (transmission_of s) (put_given t r) e, f) (refl, four)

  taken : (s : State) {r : TxRead} → Passed s q c ps ss r → Taken s r
  unfolding keyed_up
  taken s (none_waits off w) = none s _ refl refl
  taken s (held_back off w a) = none s _ refl refl
  taken s (is_keyed_up off w a) = none s _ refl refl
  taken s (in_stream e n) = subst (λ (k : State). Taken k (stream_read q c (next_frame q.streams ss))) (sym e) (refl, four)
  taken s (stream_over e) = none s _ refl refl
  taken s (is_in_packets e n) =
      let r = read_next q.packets ps in
      subst (λ (k : State). Taken k (packet_read q c r)) (sym e) (
        read_takes q.packets ps sound,
        (four_stay_four q.packets ps four).1,
      )
  taken s (ending on) = none s _ refl refl

read : (w : World) → Sound w → Four w.tnc.sending.packets
    → (left_of w.tnc.sending.packets w.packets ≡ in_packets (transmission_of w.tnc.radio.state) (gives w) ++ left_of (gives w).tnc.sending.packets w.packets)
    × Four (gives w).tnc.sending.packets
read w s k =
    let x = tx w in let e = tx_sound w s in
    subst (λ (r : TncTx). (left_of x.sending.packets x.packets ≡ in_packets (transmission_of x.state) r ++ left_of r.tnc.sending.packets x.packets) × Four r.tnc.sending.packets) (gives_as w s)
    (taken w.tnc x.sending x.channel x.packets x.streams
    (record { its_store = s.its_packets; its_state = sound_packets_lem x.state x.sending x.channel e.its_state }) k x.state
    (sound_outcome x.sending x.channel x.packets x.streams x.state e.its_packets e.its_streams e.its_state))

-- ---- what calls bring, as packets and as frames

pub joined_append : (ps qs : List Packet) → joined (ps ++ qs) ≡ joined ps ++ joined qs
unfolding joined
joined_append [] qs = refl
joined_append (p ∷ ps) qs = ap (λ (fs : List AirFrame). frames_of p ++ fs) (joined_append ps qs) ∙ sym (append_assoc (frames_of p) (joined ps) (joined qs))

joined-pick : (b : Bool) (ps qs : List Packet) → joined (pick b ps qs) ≡ pick b (joined ps) (joined qs)
unfolding pick
joined-pick true ps qs = refl
joined-pick false ps qs = refl

abbrev frames_in : HostBox → List ℕ → List AirFrame
frames_in x f = of_data (basic_frames x f) (full_frames x f) (no_frames x f) (port_read f) (command_read f)

of_data_lem : (basic full : List Packet) (p : (Result ℕ KissError)) (c : (Result KissCommand KissError)) → joined (of_data basic full [] p c) ≡ of_data (joined basic) (joined full) [] p c
unfolding joined
of_data_lem basic full (Err e) c = refl
of_data_lem basic full (Ok port) (Err e) = refl
of_data_lem basic full (Ok port) (Ok DataFrame) =
    joined-pick (ltb 2 port) [] (pick (eqb port 0) basic (pick (eqb port 1) full []))
    ∙ ap (λ (fs : List AirFrame). pick (ltb 2 port) [] fs)
    (joined-pick (eqb port 0) basic (pick (eqb port 1) full []) ∙ ap (λ (fs : List AirFrame). pick (eqb port 0) (joined basic) fs) (joined-pick (eqb port 1) full []))
of_data_lem basic full (Ok port) (Ok TxDelay) = refl
of_data_lem basic full (Ok port) (Ok P) = refl
of_data_lem basic full (Ok port) (Ok FullDuplex) = refl

one_brings : (x : HostBox) (f : List ℕ) → joined (packets_in x f) ≡ frames_in x f
unfolding packets_in
one_brings x f = of_data_lem _ _ (port_read f) (command_read f)

all_bring : (fs : List (List ℕ)) (x : HostBox) → joined (brought_by packets_in fs x) ≡ brought_by frames_in fs x
unfolding brought_by joined
all_bring [] x = refl
all_bring (f ∷ fs) x =
    joined_append (packets_in x f) (brought_by packets_in fs (after_frame x f))
    ∙ ap (λ (l : List AirFrame). l ++ joined (brought_by packets_in fs (after_frame x f))) (one_brings x f)
    ∙ ap (λ (l : List AirFrame). frames_in x f ++ l) (all_bring fs (after_frame x f))

call-brings : (w : World) (c : Call) → joined (brings packets_in w c) ≡ brings frames_in w c
unfolding brings joined
call-brings w (write_kiss buf) = all_bring (frames_after (writes w buf).0.answer w buf) (host_of w)
call-brings w (read_kiss target) = refl
call-brings w (handle_lsf lsf) = refl
call-brings w (handle_packet f) = refl
call-brings w (handle_stream f) = refl
call-brings w (set_data_carrier_detect dcd) = refl
call-brings w (set_now samples) = refl
call-brings w (set_tx_end_time samples) = refl
call-brings w ptt = refl
call-brings w read_tx_frame = refl

calls_bring : (w : World) (cs : List Call) → joined (over_all (brings packets_in) w cs) ≡ over_all (brings frames_in) w cs
unfolding over_all joined
calls_bring w [] = refl
calls_bring w (c ∷ cs) =
    joined_append (brings packets_in w c) (over_all (brings packets_in) (after w c) cs)
    ∙ ap (λ (l : List AirFrame). l ++ joined (over_all (brings packets_in) (after w c) cs)) (call-brings w c)
    ∙ ap (λ (l : List AirFrame). brings frames_in w c ++ l) (calls_bring (after w c) cs)

-- ---- over any calls: what was left and what came in is what was read and what is left

pub packets_flow : (w : World) (cs : List Call) → AllTyped cs → Sound w → Four w.tnc.sending.packets
    → left_of w.tnc.sending.packets w.packets ++ joined (over_all (brings packets_in) w cs)
    ≡ over_all (read_in in_packets) w cs ++ left_of (run w cs).tnc.sending.packets (run w cs).packets
packets_flow w cs d s k =
    ap (λ (fs : List AirFrame). left_of w.tnc.sending.packets w.packets ++ fs) (calls_bring w cs)
    ∙ (flow.flows left four basic_frames full_frames no_frames
    (λ x f h e. ((push_adds x.host.sending.packets x.packets f e (queue_sound x h)).0, ((four_stay_four x.host.sending.packets x.packets e).0 f).0))
    (λ x f h e. ((push_adds x.host.sending.packets x.packets f e (queue_sound x h)).1, ((four_stay_four x.host.sending.packets x.packets e).0 f).1))
    (λ x f h e. (sym (append-nil (left_of x.host.sending.packets x.packets)), e)) in_packets read w cs d s k).0
