-- No event prints more than 255 bytes. Assumes nothing.
use Prim.Native.Nat.{ℕ, zero, suc, ◌+◌, ◌-◌, ◌*◌, ◌/◌, ◌%◌, ◌≤◌}
use mathlib.Core.Path.{◌≡◌}
use mathlib.Core.List.{List, [], ◌∷◌}
use native.Mathlib.Omega.{arith}
use borrow.Author.Tests.{leb-true}
use lib.ListN.{length, take, drop, get_or, replicate, length-take, length-drop, length-append}
use Rattle.choice.specs.Pick.{pick_all}
use Rattle.channel.specs.declared.Channel.{Channel}
use Rattle.std.specs.Prelude.{Result, Ok, Err, Option}
use Rattle.channel.specs.declared.Access.{Access}
use Rattle.channel.specs.declared.ChannelError.{ChannelError}
use Rattle.channel.specs.declared.Access.TheVariants.{Sends, Waits}
use Rattle.channel.specs.Access.{accessed}
use Rattle.outgoing.specs.declared.HostRead.{HostRead}
use Rattle.outgoing.specs.Message.{host_read, read_count}
use Rattle.room.specs.declared.LentError.{LentError}
use Rattle.protocol.specs.declared.ModulatorFrame.{ModulatorFrame}
use Rattle.protocol.specs.declared.StreamFrame.{StreamFrame}
use Rattle.protocol.specs.declared.PacketFrame.{PacketFrame}
use Rattle.protocol.specs.Lsf.{part}
use Rattle.packets.specs.declared.PacketQueue.{PacketQueue}
use Rattle.packets.specs.declared.PacketRead.{PacketRead}
use Rattle.packets.specs.Frames.{chunk, padded, zeros}
use Rattle.packets.specs.Queue.{read_next as next_piece, walk, turn, lsf_read as packet_lsf, data_read, advanced, ROOM}
use Rattle.streams.specs.declared.StreamQueue.{StreamQueue}
use Rattle.streams.specs.declared.StreamRead.{StreamRead}
use Rattle.streams.specs.Layout.{bytes_of, frame_of, end_byte, FRAME}
use Rattle.streams.specs.Queue.{read_next as next_frame, next_read, lsf_read, frame_read, LSF}
use Rattle.state.specs.declared.State.{State}
use Rattle.state.specs.declared.Transmission.{Transmission}
use Rattle.state.specs.declared.Transmission.TheVariants.{Receiving, Stream as InStream, StreamSent, Packet as InPacket, Ending}
use Rattle.state.specs.State.{transmission_of}
use Rattle.sending.specs.declared.Sending.{Sending}
use Rattle.tx_frame.specs.declared.TxRead.{TxRead}
use Rattle.tx_begin.specs.Begin.{keyed_up, allowed, begun}
use Rattle.tx_stream.specs.Stream.{stream_given}
use Rattle.tx_packet.specs.Packet.{packet_given}
use Rattle.tnc_modulator.specs.Modulator.{given, tx_read}
use Rattle.tnc_read.specs.declared.TncRead.{TncRead}
use Rattle.tnc_transmit.specs.declared.TncTx.{TncTx}
use Rattle.tnc_read.specs.Calls.{tnc_read}
use Rattle.tnc_transmit.specs.Calls.{tnc_tx}
use Rattle.any_calls.specs.Calls.{World, Call, gives}
use Rattle.event_packet.specs.Packet.{packet_body, counter_byte}
use Rattle.event_tx.specs.Tx.{frame_bytes, laid_out}
use Rattle.event_step.specs.Step.{Turn, call_of, bytes_after, made, not_made, perhaps, applied}
use Rattle.event_step.specs.Promises.{AtMost255}

-- ---- 08: the frames

taken : (n : ℕ) (l : List ℕ) → length (take n l) ≤ n
taken n l = omega (arith, length-take n l)

-- no frame is laid out in more
abbrev FrameFew : Result (Option ModulatorFrame) LentError → Type 0
FrameFew a = length (frame_bytes a) ≤ 255

stream_few : (f : StreamFrame) → length f.lich_part ≤ 5 → length f.stream_data ≤ 16 → length (bytes_of f) ≤ 255
unfolding bytes_of
stream_few f part voice =
    omega (arith, part, voice, length-append f.lich_part (f.frame_number / 256 ∷ f.frame_number % 256 ∷ end_byte f.end_of_stream ∷ f.stream_data))

packet_few : (f : PacketFrame) → length f.payload ≤ 25 → length (packet_body f) ≤ 255
unfolding packet_body
packet_few f payload = omega (arith, payload, length-append f.payload (counter_byte f.counter ∷ []))

abbrev StreamFew : StreamRead → Type 0
StreamFew r = FrameFew r.answer

stream_read_few : (q : StreamQueue) (store : List ℕ) → StreamFew (next_frame q store)
unfolding next_frame next_read lsf_read frame_read frame_of frame_bytes
stream_read_few q store =
    pick_all StreamFew _ _ _
    (λ e. pick_all StreamFew _ _ _
    (λ e. pick_all StreamFew _ _ _ (λ e. omega arith)
    (λ e. pick_all StreamFew _ _ _ (λ e. omega (arith, taken 30 (drop LSF store)))
    (λ e. let b = part (FRAME * q.curr) FRAME store in stream_few (frame_of b) (taken 5 (drop 1 b)) (taken 16 (drop 9 b)))))
    (λ e. omega arith))
    (λ e. omega arith)

abbrev PacketFew : PacketRead → Type 0
PacketFew r = FrameFew r.answer

padded_small : (d : List ℕ) → length d ≤ 25 → length (padded 25 d) ≤ 25
unfolding padded zeros
padded_small d h =
    let z : List ℕ = replicate 25 0 in
    let whole : length (padded 25 d) ≡ length d + length (drop (length d) z) = length-append d (drop (length d) z) in
    let rest : length (drop (length d) z) ≡ 25 - length d = length-drop (length d) z in
    omega (arith, whole, rest, h)

chunk_small : (i : ℕ) (d : List ℕ) → length (chunk i d).payload ≤ 25
unfolding chunk
chunk_small i d = pick_all (λ (f : PacketFrame). length f.payload ≤ 25) _ _ _ (λ e. padded_small d (leb-true (length d) 25 e)) (λ e. taken 25 d)

packet_turn : (q : PacketQueue) (store : List ℕ) (on : PacketRead) → PacketFew on → PacketFew (turn q store on)
unfolding turn packet_lsf data_read frame_bytes
packet_turn q store on h =
    pick_all PacketFew _ _ _ (λ e. omega arith)
    (λ e. pick_all PacketFew _ _ _ (λ e. omega (arith, taken 30 (drop (ROOM * q.curr) store)))
    (λ e. pick_all PacketFew _ _ _ (λ e. h) (λ e. packet_few _ (chunk_small _ _))))

packet_walk_lem : (n : ℕ) (q : PacketQueue) (store : List ℕ) → PacketFew (walk n q store)
unfolding walk frame_bytes
packet_walk_lem zero q store = omega arith
packet_walk_lem (suc n) q store = packet_turn q store (walk n (advanced q) store) (packet_walk_lem n (advanced q) store)

packet_read_few : (q : PacketQueue) (store : List ℕ) → PacketFew (next_piece q store)
unfolding next_piece frame_bytes
packet_read_few q store =
    pick_all PacketFew _ _ _ (λ e. pick_all PacketFew _ _ _ (λ e. pick_all PacketFew _ _ _ (λ e. omega arith) (λ e. packet_walk_lem 4 q store)) (λ e. omega arith)) (λ e. omega arith)

abbrev TxFew : TxRead → Type 0
TxFew r = FrameFew r.answer

allowed_few : (a : Result Access ChannelError) (state : State) (sending : Sending) (channel : Channel) → TxFew (allowed a state sending channel)
unfolding keyed_up frame_bytes
allowed_few (Ok Sends) state sending channel = omega arith
allowed_few (Ok Waits) state sending channel = omega arith
allowed_few (Err e) state sending channel = omega arith

given_few : (t : Transmission) (state : State) (sending : Sending) (channel : Channel) (packets streams : List ℕ) → TxFew (given t state sending channel packets streams)
unfolding begun stream_given packet_given frame_bytes
given_few Receiving state sending channel packets streams =
    pick_all TxFew _ _ _ (λ e. allowed_few (accessed channel).answer state sending (accessed channel).channel) (λ e. omega arith)
given_few InStream state sending channel packets streams = stream_read_few sending.streams streams
given_few StreamSent state sending channel packets streams = omega arith
given_few InPacket state sending channel packets streams = packet_read_few sending.packets packets
given_few Ending state sending channel packets streams = omega arith

read_few : (state : State) (sending : Sending) (channel : Channel) (packets streams : List ℕ) → TxFew (tx_read state sending channel packets streams)
unfolding tx_read frame_bytes
read_few state sending channel packets streams =
    pick_all TxFew _ _ _ (λ e. pick_all TxFew _ _ _ (λ e. given_few (transmission_of state) state sending channel packets streams) (λ e. omega arith)) (λ e. omega arith)

abbrev GivesFew : TncTx → Type 0
GivesFew g = FrameFew g.answer

gives_few : (w : World) → GivesFew (gives w)
unfolding tnc_tx frame_bytes
gives_few w =
    pick_all GivesFew _ _ _
    (λ e. pick_all GivesFew _ _ _
    (λ e. pick_all GivesFew _ _ _ (λ e. read_few w.tnc.radio.state w.tnc.sending w.channel w.packets w.streams) (λ e. omega arith))
    (λ e. omega arith))
    (λ e. omega arith)

-- ---- 09: no more than there is room for

host_few : (w : World) (target : List ℕ) → read_count (tnc_read w.tnc w.message target).0.answer ≤ length target
unfolding tnc_read host_read
host_few w target =
    pick_all (λ (r : TncRead × List ℕ). read_count r.0.answer ≤ length target) _ _ _
    (λ e. pick_all (λ (r : TncRead × List ℕ). read_count r.0.answer ≤ length target) _ _ _
    (λ e. pick_all (λ (r : HostRead × List ℕ). read_count r.0.answer ≤ length target) _ _ _
    (λ e. pick_all (λ (r : HostRead × List ℕ). read_count r.0.answer ≤ length target) _ _ _ (λ e. omega arith) (λ e. omega arith))
    (λ e. omega arith))
    (λ e. omega arith))
    (λ e. omega arith)

-- ---- any event

abbrev Few : Turn → Type 0
Few t = t.count ≤ 255

-- of the call that an event stands for
abbrev FewOf : World → List ℕ → Option Call → Type 0
FewOf w room c = Few (perhaps w room c)

call_few : (k : ℕ) (b : List ℕ) (w : World) (room : List ℕ) → get_or b 0 0 ≤ 255 → FewOf w room (call_of k b room)
unfolding call_of made not_made bytes_after laid_out
call_few k b w room h =
    pick_all (FewOf w room) _ _ _ (λ e. omega arith)
    (λ e. pick_all (FewOf w room) _ _ _ (λ e. omega arith)
    (λ e. pick_all (FewOf w room) _ _ _ (λ e. omega arith)
    (λ e. pick_all (FewOf w room) _ _ _ (λ e. omega arith)
    (λ e. pick_all (FewOf w room) _ _ _ (λ e. omega arith)
    (λ e. pick_all (FewOf w room) _ _ _ (λ e. omega arith)
    (λ e. pick_all (FewOf w room) _ _ _ (λ e. omega arith)
    (λ e. pick_all (FewOf w room) _ _ _ (λ e. gives_few w)
    (λ e. pick_all (FewOf w room) _ _ _ (λ e. omega (arith, host_few w (take (get_or b 0 0) room), length-take (get_or b 0 0) room, h)) (λ e. omega arith)))))))))

pub at_most_255 : AtMost255
unfolding applied not_made
at_most_255 k b w room h = pick_all Few _ _ _ (λ e. pick_all Few _ _ _ (λ e. call_few k b w room h) (λ e. omega arith)) (λ e. omega arith)
