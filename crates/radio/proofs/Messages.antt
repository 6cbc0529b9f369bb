-- The messages to the host: builders accept what they are made of, and they are within the bounds. Assumes nothing.
use Prim
use Prim.Native.Nat.{ℕ, ◌-◌, ◌≤◌}
use mathlib.Core.Bool.{true}
use mathlib.Core.Path.{◌≡◌, refl, sym, ap, ◌∙◌}
use mathlib.Core.List.{List}
use native.Mathlib.Omega.{arith}
use lib.ListN.{length, drop}
use lib.Seq.{length-sets, take_at}
use borrow.Author.Tests.{eq-eqb, le-leb, le-ltb}
use Rattle.choice.specs.Pick.{pick_yes, pick_no, and_both}
use Rattle.room.specs.Room.{over}
use Rattle.room.proofs.Runs.{put_front}
use Rattle.protocol.specs.declared.StreamFrame.{StreamFrame}
use Rattle.kiss_layout.specs.Build.{Building, full_packet, stream_setup, stream_data, refusal, frame_of}
use Rattle.kiss_layout.specs.Promises.{Accepted}
use Rattle.kiss_layout.proofs.Kept.{built_at_most_1713}
use Rattle.outgoing.specs.Message.{sound_message, left}
use Rattle.radio.specs.Radio.{MESSAGE}

pub setup_accepted : (lsf : List ℕ) → length lsf ≡ 30 → Accepted (stream_setup lsf)
unfolding refusal
setup_accepted lsf h = record { typed = Prim.tt; not_refused = sym (pick_yes _ (eq-eqb (length lsf) 30 h) refl) }

pub packet_accepted : (lsf packet : List ℕ) → length lsf ≡ 30 → length packet ≤ 825 → Accepted (full_packet lsf packet)
unfolding refusal
packet_accepted lsf packet h k =
    record { typed = Prim.tt; not_refused = sym (pick_yes _ (eq-eqb (length lsf) 30 h) (pick_no _ (le-ltb 825 (length packet) k) refl)) }

pub data_accepted : (f : StreamFrame) → length f.lich_part ≡ 5 → length f.stream_data ≡ 16 → f.lich_idx ≤ 5 → f.frame_number ≤ 32767 → Accepted (stream_data f)
unfolding refusal
data_accepted f p d i n =
    record { typed = (p, d); not_refused = sym (pick_no _ (le-ltb 5 f.lich_idx i) (pick_no _ (le-ltb 32767 f.frame_number n) refl)) }

-- ---- a message at the store's start

pub length_over : (xs d : List ℕ) → length xs ≤ length d → length (over xs d) ≡ length d
length_over xs d h = ap length (sym (put_front d xs h)) ∙ length-sets d 0 xs

-- the message that a builder makes is within its bounds
pub told_sound : (b : Building) → Accepted b → sound_message (record { len = length (frame_of b); read = 0 }) ≡ true
unfolding sound_message
told_sound b ok = and_both (le-leb 0 (length (frame_of b)) (omega arith)) (le-leb (length (frame_of b)) MESSAGE (built_at_most_1713 b ok))

-- what there is to read of a message that stands at the store's start
pub left_over : (f d : List ℕ) → left (record { len = length f; read = 0 }) (over f d) ≡ f
unfolding left
left_over f d = take_at f (drop (length f) d) (length f - 0) (omega arith)
