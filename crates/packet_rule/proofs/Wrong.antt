-- The rule of specs/Wrong.antt is kept, and the wrong reads break it: each at a small queue. Assumes nothing.
use Prim.Native.Nat.{ℕ}
use mathlib.Core.Bool.{true, false, false≢true}
use mathlib.Core.Path.{◌≡◌, refl, sym, ap, ◌∙◌}
use mathlib.Core.List.{List, [], ◌∷◌}
use native.Mathlib.Omega.{arith}
use lib.ListN.{length, replicate}
use Rattle.choice.specs.Pick.{pick, and}
use Rattle.choice.specs.Cases.{all_pass}
use Rattle.packets.specs.declared.PacketQueue.{PacketQueue}
use Rattle.packets.specs.declared.PacketRead.{PacketRead}
use Rattle.packets.specs.Frames.{AirFrame, zeros, padded, chunk, chunks, data_frames}
use Rattle.packets.specs.Queue.{new_queue, sound_place, sound_queue, is_empty, with_place, advanced, lsf_read, data_read, turn, walk, read_next}
use Rattle.packets.specs.Promises.{Sound}
use Rattle.packets.proofs.Kept as packets
use Rattle.packet_rule.specs.Left.{left_of, waiting, in_turn, rest_at, lsf_left, data_left}
use Rattle.packet_rule.specs.Promises.{one_waits, one_store}
use Rattle.packet_rule.specs.Wrong.{Rule, FramesRule, RuleIsKept, only_ends, repeats, frees_at_once, clears_when_empty, four_are_none, keys_up_again, WrongReadsBreakIt, FiveBreakFramesRule}
use Rattle.packet_rule.proofs.Kept.{read_takes, end_is_used_up, something_is_given, one_is_left}
use Rattle.packet_rule.proofs.Held.{frame_keeps_its_place}

pub rule_is_kept : RuleIsKept
rule_is_kept =
    record {
      takes = read_takes;
      ends = end_is_used_up;
      gives = something_is_given;
      gives_packets = packets.gives_packets;
      holds = λ q store s. frame_keeps_its_place q store;
      stays_sound = λ q store s. (packets.sound_stays_sound q store s).1;
    }

frames_rule : (read : PacketQueue → List ℕ → PacketRead) → Rule read → FramesRule read
frames_rule read r = record { takes = r.takes; ends = r.ends; gives = r.gives; holds = r.holds; stays_sound = r.stays_sound }

-- ---- small queues

-- the last byte of 26 is left
last_waits : PacketQueue
last_waits = record { places = record { due = false; len = 26; sent = 25 } ∷ replicate 3 (record { due = false; len = 0; sent = 0 }); next = 1; curr = 0; full = false }

-- four packets, the first of them spent
four_wait : PacketQueue
four_wait = record { places = record { due = false; len = 26; sent = 26 } ∷ replicate 3 (record { due = true; len = 26; sent = 0 }); next = 0; curr = 0; full = true }

last_sound : Sound last_waits one_store
unfolding last_waits sound_queue sound_place all_pass and pick
last_sound = record { its_store = refl; its_state = refl }

four_sound : Sound four_wait one_store
unfolding four_wait sound_queue sound_place all_pass and pick
four_sound = record { its_store = refl; its_state = refl }

none_is_not_some : (f : AirFrame) (fs : List AirFrame) → f ∷ fs ≡ [] → ⊥
none_is_not_some f fs e = let h : length (f ∷ fs) ≡ 0 = ap length e in absurd (omega arith)

-- ---- the wrong ones

only_ends_lem : FramesRule only_ends → ⊥
only_ends_lem r = none_is_not_some _ _ (sym one_is_left.1 ∙ r.ends one_waits one_store one_is_left.0 refl)

-- three frames are left before it and after it, and one was given
repeating : FramesRule repeats → ⊥
unfolding read_next walk turn is_empty lsf_read sound_queue sound_place all_pass and pick
repeating r = more (left_of one_waits one_store) (r.takes one_waits one_store one_is_left.0)
  where
    more : {f : AirFrame} (fs : List AirFrame) → fs ≡ f ∷ fs → ⊥
    more {f} fs e = let h : length fs ≡ length (f ∷ fs) = ap length e in absurd (omega arith)

frees_at_once_lem : FramesRule frees_at_once → ⊥
unfolding last_waits read_next walk turn is_empty data_read with_place advanced sound_queue sound_place all_pass and pick
frees_at_once_lem r = false≢true (sym (r.holds last_waits one_store last_sound (λ e. none_is_not_some _ _ e)))

clears_when_empty_lem : FramesRule clears_when_empty → ⊥
unfolding four_wait read_next walk turn is_empty lsf_read with_place advanced sound_queue sound_place all_pass and pick
clears_when_empty_lem r = false≢true (r.stays_sound four_wait one_store four_sound).its_state

four_are_none_lem : FramesRule four_are_none → ⊥
unfolding four_wait pick left_of waiting in_turn rest_at lsf_left data_left data_frames chunks chunk padded zeros
four_are_none_lem r = r.gives four_wait one_store four_sound (λ e. none_is_not_some _ _ e) refl

keys_up_again_lem : Rule keys_up_again → ⊥
unfolding is_empty pick
keys_up_again_lem r = false≢true (r.gives_packets new_queue [] _ refl)

pub wrong_reads_break_it : WrongReadsBreakIt
wrong_reads_break_it = (
  λ r. only_ends_lem (frames_rule only_ends r),
  λ r. repeating (frames_rule repeats r),
  λ r. frees_at_once_lem (frames_rule frees_at_once r),
  λ r. clears_when_empty_lem (frames_rule clears_when_empty r),
  λ r. four_are_none_lem (frames_rule four_are_none r),
  keys_up_again_lem,
)

pub five_break_frames_rule : FiveBreakFramesRule
five_break_frames_rule = (only_ends_lem, repeating, frees_at_once_lem, clears_when_empty_lem, four_are_none_lem)
