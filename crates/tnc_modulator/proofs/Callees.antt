-- The parts that a read calls do not refuse what is sound. Assumes nothing.
use Prim.Native.Nat.{ℕ, zero, suc, ◌%◌}
use mathlib.Core.Bool.{true}
use mathlib.Core.List.{List}
use mathlib.Core.Path.{◌≡◌, refl}
use borrow.Author.Tests.{eq-eqb}
use lib.Dec.{ltb, eqb}
use lib.ListN.{length}
use Rattle.std.specs.Prelude.{Ok, None}
use Rattle.choice.specs.Pick.{pick, pick_all}
use Rattle.channel.specs.declared.Channel.{Channel}
use Rattle.channel.specs.declared.Accessed.{Accessed}
use Rattle.channel.specs.Access.{sound_channel, check_later, check_due, accessed, access_number}
use Rattle.packets.specs.declared.PacketQueue.{PacketQueue}
use Rattle.packets.specs.declared.PacketRead.{PacketRead}
use Rattle.packets.specs.Queue.{STORE as PACKETS, sound_queue as sound_packets, is_empty, not_read, advanced, lsf_read, data_read, turn, walk, read_next as next_piece, read_number as piece_number}
use Rattle.streams.specs.declared.StreamQueue.{StreamQueue}
use Rattle.streams.specs.declared.StreamRead.{StreamRead}
use Rattle.streams.specs.Queue.{STORE as STREAMS, sound_queue as sound_streams, empty_queue, lsf_read as stream_lsf, frame_read, next_read, read_next as next_frame, read_number as frame_number}

-- ---- channel access

due_answered : (c : Channel) → access_number (check_due c).answer ≡ 0
unfolding check_due check_later
due_answered c =
    pick_all (λ (a : Accessed). access_number a.answer ≡ 0) (ltb c.clock c.check) _ _ (λ t. refl)
    (λ t. pick_all (λ (a : Accessed). access_number a.answer ≡ 0) c.carrier _ _ (λ u. refl)
    (λ u. pick_all (λ (a : Accessed). access_number a.answer ≡ 0) (eqb (c.clock % 4) 3) _ _ (λ v. refl) (λ v. refl)))

pub access_answered : (c : Channel) → sound_channel c ≡ true → access_number (accessed c).answer ≡ 0
unfolding accessed check_later pick
access_answered c e =
    rw e (pick_all (λ (a : Accessed). access_number a.answer ≡ 0) c.duplex _ _ (λ t. refl)
    (λ t. pick_all (λ (a : Accessed). access_number a.answer ≡ 0) c.waits _ _ (λ u. due_answered c)
    (λ u. pick_all (λ (a : Accessed). access_number a.answer ≡ 0) c.carrier _ _ (λ v. refl) (λ v. refl))))

-- ---- the stream queue

pub stream-answered : (q : StreamQueue) (s : List ℕ) → length s ≡ STREAMS → sound_streams q ≡ true → frame_number (next_frame q s).answer ≡ 0
unfolding next_frame next_read stream_lsf frame_read pick
stream-answered q s l e =
    rw (eq-eqb (length s) STREAMS l, e) (pick_all (λ (r : StreamRead). frame_number r.answer ≡ 0) (empty_queue q) _ _ (λ _. refl)
    (λ _. pick_all (λ (r : StreamRead). frame_number r.answer ≡ 0) q.pending _ _ (λ _. refl) (λ _. refl)))

-- ---- the packet queue

walk-answered : (n : ℕ) (q : PacketQueue) (s : List ℕ) → piece_number (walk n q s).answer ≡ 0
unfolding walk turn lsf_read data_read
walk-answered zero q s = refl
walk-answered (suc n) q s =
    pick_all (λ (r : PacketRead). piece_number r.answer ≡ 0) _ _ _ (λ _. refl)
    (λ _. pick_all (λ (r : PacketRead). piece_number r.answer ≡ 0) _ _ _ (λ _. refl)
    (λ _. pick_all (λ (r : PacketRead). piece_number r.answer ≡ 0) _ _ _ (λ _. walk-answered n (advanced q) s) (λ _. refl)))

pub packets_answered : (q : PacketQueue) (s : List ℕ) → length s ≡ PACKETS → sound_packets q ≡ true → piece_number (next_piece q s).answer ≡ 0
unfolding next_piece pick
packets_answered q s l e =
    rw (eq-eqb (length s) PACKETS l, e) (pick_all (λ (r : PacketRead). piece_number r.answer ≡ 0) (is_empty q) (not_read (Ok None) q) (walk 4 q s) (λ _. refl) (λ _. walk-answered 4 q s))
