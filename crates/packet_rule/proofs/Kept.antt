-- The promises of specs/Promises.antt are kept. Assumes nothing.
use Prim.Native.Nat.{ℕ}
use mathlib.Core.Path.{refl, ap}
use mathlib.Core.List.{List}
use Rattle.choice.specs.Pick.{pick, and}
use Rattle.choice.specs.Cases.{all_pass}
use Rattle.packets.specs.declared.PacketQueue.{PacketQueue}
use Rattle.packets.specs.Frames.{zeros, padded, chunk, chunks, data_frames}
use Rattle.packets.specs.Queue.{sound_place, sound_queue, made_basic, made_full, pushed_basic, pushed_full, read_next, frames_in}
use Rattle.packets.specs.Promises.{Sound}
use Rattle.packets.proofs.Kept.{made_basic_fit, made_full_fit}
use Rattle.packet_rule.specs.Left.{lsf_left, data_left, rest_at, waiting, in_turn, left_of}
use Rattle.packet_rule.specs.Promises.{NewHasNone, NewHasFour, FourStayFour, PushAdds, ReadTakes, EndIsUsedUp, NothingIsUsedUp, SomethingIsGiven, OneIsLeft}
use Rattle.packet_rule.proofs.Walked.{Takes, read_takes_one}
use Rattle.packet_rule.proofs.Added.{pushing_adds, pushing_four, read_four}

pub new_has_none : NewHasNone
unfolding left_of waiting in_turn pick
new_has_none store = refl

-- ---- pushes

pub new_has_four : NewHasFour
new_has_four = refl

pub four_stay_four : FourStayFour
unfolding pushed_basic pushed_full
four_stay_four q store four = (λ f. (pushing_four q store four (made_basic f), pushing_four q store four (made_full f)), read_four q store four)

pub push_adds : PushAdds
unfolding pushed_basic pushed_full
push_adds q store f four h = (pushing_adds q store four h (made_basic f) (made_basic_fit f), pushing_adds q store four h (made_full f) (made_full_fit f))

-- ---- reads

taken : (q : PacketQueue) (store : List ℕ) → Sound q store → Takes q store (read_next q store)
taken q store h = read_takes_one store h.its_store q h.its_state

pub read_takes : ReadTakes
read_takes q store h = (taken q store h).kept

pub end_is_used_up : EndIsUsedUp
end_is_used_up q store h e = (taken q store h).used_up (ap frames_in e)

pub nothing_is_used_up : NothingIsUsedUp
nothing_is_used_up q store h e = (taken q store h).used_up (ap frames_in e)

pub something_is_given : SomethingIsGiven
something_is_given q store h some none = some ((taken q store h).used_up none)

-- ---- the example

pub one_is_left : OneIsLeft
unfolding sound_queue sound_place all_pass and left_of waiting in_turn rest_at lsf_left data_left data_frames chunks chunk padded zeros pick
one_is_left = (record { its_store = refl; its_state = refl }, refl)
