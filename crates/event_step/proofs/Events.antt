-- What each arm of `apply` leaves is what the event does. Assumes nothing.
use Prim.Native.Nat.{ℕ, ◌≤◌, ◌<◌}
use mathlib.Core.Bool.{Bool, true, false, not}
use mathlib.Core.Path.{◌≡◌, refl, sym, ap, ◌∙◌}
use mathlib.Core.List.{List}
use Rattle.std.specs.Prelude.{Option, Some, None}
use borrow.Author.Tests.{le-leb, lt-leb}
use lib.Dec.{leb, eqb}
use lib.ListN.{length, take, get_or}
use Rattle.choice.specs.Pick.{pick}
use Rattle.channel.specs.Access.{carrier_set}
use Rattle.streams.specs.Layout.{frame_of}
use Rattle.air_lsf.specs.Begun.{lsf_heard}
use Rattle.tnc_air.specs.Heard.{packet_heard}
use Rattle.tnc_stream.specs.Stream.{stream_heard}
use Rattle.tnc_clock.specs.Clock.{now_set, end_time_set}
use Rattle.tnc.specs.Calls.{tnc_written}
use Rattle.tnc_read.specs.Calls.{tnc_read}
use Rattle.tnc_receive.specs.Calls.{air_heard}
use Rattle.tnc_transmit.specs.Calls.{tnc_tx}
use Rattle.any_calls.specs.Calls.{World, Call, write_kiss, read_kiss, handle_lsf, handle_packet, handle_stream, set_data_carrier_detect, set_now, set_tx_end_time, read_tx_frame, after, number}
use Rattle.event_input.specs.Events.{body_len}
use Rattle.event_step.specs.Numbers.{four_bytes, eight_bytes}
use Rattle.event_packet.specs.Packet.{packet_of}
use Rattle.event_answer.specs.declared.EventBox.{EventBox}
use Rattle.event_answer.specs.declared.Applied.{Applied}
use Rattle.event_answer.specs.Answer.{MOST, refused}
use Rattle.event_step.specs.Host.{of_write, of_read}
use Rattle.event_step.specs.Channel.{of_set, of_timed}
use Rattle.event_air.specs.Air.{of_heard}
use Rattle.event_tx.specs.Tx.{of_tx}
use Rattle.event_step.specs.Step.{call_of, bytes_after, number_of, made, not_made, perhaps, applied, world_of, turn_of}

pick-ap : {A B : Type 0} (f : A → B) (t : Bool) (x y : A) → f (pick t x y) ≡ pick t (f x) (f y)
unfolding pick
pick-ap f true x y = refl
pick-ap f false x y = refl

pick_same : {A : Type 0} (t : Bool) (y : A) → y ≡ pick t y y
unfolding pick
pick_same true y = refl
pick_same false y = refl

-- a room that has its length
roomy : {A : Type 0} (room : List ℕ) (x y : A) → MOST ≤ length room → pick (leb MOST (length room)) x y ≡ x
unfolding pick
roomy room x y h = rw (le-leb MOST (length room) h)

module _ (k : ℕ) (b : List ℕ) (w : World) (room : List ℕ) where
  too_small : length room < MOST → not_made w room ≡ applied k b w room
  unfolding applied pick
  too_small h = rw (lt-leb MOST (length room) h)

  by_body : MOST ≤ length room → (n : ℕ) → body_len k ≡ n → {c : Option Call} → call_of k b room ≡ c → pick (eqb (length b) n) (perhaps w room c) (not_made w room) ≡ applied k b w room
  unfolding applied
  by_body h n l e = rw (← l, ← e) (sym (roomy room _ _ h))

module _ (x : EventBox) (k : ℕ) (b r p s rx m room : List ℕ) where
  is_refused : (y : Applied) → y ≡ refused x → turn_of y r p s rx m room ≡ not_made (world_of x r p s rx m) room
  unfolding not_made
  is_refused y e = ap (λ (y : Applied). turn_of y r p s rx m room) e

  pub small : (y : Applied) → y ≡ refused x → length room < MOST → turn_of y r p s rx m room ≡ applied k b (world_of x r p s rx m) room
  small y e h = is_refused y e ∙ too_small k b (world_of x r p s rx m) room h

  pub unknown : (y : Applied) → y ≡ refused x → MOST ≤ length room → None ≡ call_of k b room → turn_of y r p s rx m room ≡ applied k b (world_of x r p s rx m) room
  unknown y e h n =
      is_refused y e
      ∙ pick_same (eqb (length b) (body_len k)) (not_made (world_of x r p s rx m) room)
      ∙ by_body k b (world_of x r p s rx m) room h (body_len k) refl (sym n)

-- the nine kinds
module _ (x : EventBox) (k : ℕ) (b r p s rx m room : List ℕ) (h : MOST ≤ length room) where
  done : (c : Call) (n : ℕ) → body_len k ≡ n → call_of k b room ≡ Some c → pick (eqb (length b) n) (made (world_of x r p s rx m) room c) (not_made (world_of x r p s rx m) room) ≡ applied k b (world_of x r p s rx m) room
  done c n l e = by_body k b (world_of x r p s rx m) room h n l e

  pub on_host : k ≡ 1 → {q : Applied × List ℕ × List ℕ × List ℕ} → q ≡ pick (eqb (length b) 1) (of_write (tnc_written x.tnc x.channel b r p s)) (refused x, r, p, s) → turn_of q.0 q.1 q.2 q.3 rx m room ≡ applied k b (world_of x r p s rx m) room
  unfolding call_of body_len pick made not_made number_of number after bytes_after
  on_host e q =
      ap (λ (q : Applied × List ℕ × List ℕ × List ℕ). turn_of q.0 q.1 q.2 q.3 rx m room) q
      ∙ pick-ap (λ (q : Applied × List ℕ × List ℕ × List ℕ). turn_of q.0 q.1 q.2 q.3 rx m room) (eqb (length b) 1) (of_write (tnc_written x.tnc x.channel b r p s)) (refused x, r, p, s)
      ∙ done (write_kiss b) 1 (rw e) (rw e)

  pub on_carrier : k ≡ 2 → {q : Applied} → q ≡ pick (eqb (length b) 1) (of_set x.tnc (carrier_set x.channel (not (eqb (get_or b 0 0) 0)))) (refused x) → turn_of q r p s rx m room ≡ applied k b (world_of x r p s rx m) room
  unfolding call_of body_len pick made not_made number_of number after bytes_after
  on_carrier e q =
      ap (λ (q : Applied). turn_of q r p s rx m room) q
      ∙ pick-ap (λ (q : Applied). turn_of q r p s rx m room) (eqb (length b) 1) (of_set x.tnc (carrier_set x.channel (not (eqb (get_or b 0 0) 0)))) (refused x)
      ∙ done (set_data_carrier_detect (not (eqb (get_or b 0 0) 0))) 1 (rw e) (rw e)

  pub on_clock_lem : k ≡ 3 → {q : Applied} → q ≡ pick (eqb (length b) 8) (of_timed (now_set x.tnc x.channel (eight_bytes b 0))) (refused x) → turn_of q r p s rx m room ≡ applied k b (world_of x r p s rx m) room
  unfolding call_of body_len pick made not_made number_of number after bytes_after
  on_clock_lem e q =
      ap (λ (q : Applied). turn_of q r p s rx m room) q
      ∙ pick-ap (λ (q : Applied). turn_of q r p s rx m room) (eqb (length b) 8) (of_timed (now_set x.tnc x.channel (eight_bytes b 0))) (refused x)
      ∙ done (set_now (eight_bytes b 0)) 8 (rw e) (rw e)

  pub on_end : k ≡ 4 → {q : Applied} → q ≡ pick (eqb (length b) 4) (of_timed (end_time_set x.tnc x.channel (four_bytes b 0))) (refused x) → turn_of q r p s rx m room ≡ applied k b (world_of x r p s rx m) room
  unfolding call_of body_len pick made not_made number_of number after bytes_after
  on_end e q =
      ap (λ (q : Applied). turn_of q r p s rx m room) q
      ∙ pick-ap (λ (q : Applied). turn_of q r p s rx m room) (eqb (length b) 4) (of_timed (end_time_set x.tnc x.channel (four_bytes b 0))) (refused x)
      ∙ done (set_tx_end_time (four_bytes b 0)) 4 (rw e) (rw e)

  pub on_lsf : k ≡ 5 → {q : Applied × List ℕ × List ℕ} → q ≡ pick (eqb (length b) 30) (of_heard x.channel (air_heard x.tnc rx m (lsf_heard x.tnc.radio b rx m))) (refused x, rx, m) → turn_of q.0 r p s q.1 q.2 room ≡ applied k b (world_of x r p s rx m) room
  unfolding call_of body_len pick made not_made number_of number after bytes_after
  on_lsf e q =
      ap (λ (q : Applied × List ℕ × List ℕ). turn_of q.0 r p s q.1 q.2 room) q
      ∙ pick-ap (λ (q : Applied × List ℕ × List ℕ). turn_of q.0 r p s q.1 q.2 room) (eqb (length b) 30) (of_heard x.channel (air_heard x.tnc rx m (lsf_heard x.tnc.radio b rx m))) (refused x, rx, m)
      ∙ done (handle_lsf b) 30 (rw e) (rw e)

  pub on_packet : k ≡ 6 → {q : Applied × List ℕ × List ℕ} → q ≡ pick (eqb (length b) 26) (of_heard x.channel (air_heard x.tnc rx m (packet_heard x.tnc.radio (packet_of b) rx m))) (refused x, rx, m) → turn_of q.0 r p s q.1 q.2 room ≡ applied k b (world_of x r p s rx m) room
  unfolding call_of body_len pick made not_made number_of number after bytes_after
  on_packet e q =
      ap (λ (q : Applied × List ℕ × List ℕ). turn_of q.0 r p s q.1 q.2 room) q
      ∙ pick-ap (λ (q : Applied × List ℕ × List ℕ). turn_of q.0 r p s q.1 q.2 room) (eqb (length b) 26) (of_heard x.channel (air_heard x.tnc rx m (packet_heard x.tnc.radio (packet_of b) rx m))) (refused x, rx, m)
      ∙ done (handle_packet (packet_of b)) 26 (rw e) (rw e)

  pub on_stream : k ≡ 7 → {q : Applied × List ℕ × List ℕ} → q ≡ pick (eqb (length b) 25) (of_heard x.channel (air_heard x.tnc rx m (stream_heard x.tnc.radio (frame_of b) rx m))) (refused x, rx, m) → turn_of q.0 r p s q.1 q.2 room ≡ applied k b (world_of x r p s rx m) room
  unfolding call_of body_len pick made not_made number_of number after bytes_after
  on_stream e q =
      ap (λ (q : Applied × List ℕ × List ℕ). turn_of q.0 r p s q.1 q.2 room) q
      ∙ pick-ap (λ (q : Applied × List ℕ × List ℕ). turn_of q.0 r p s q.1 q.2 room) (eqb (length b) 25) (of_heard x.channel (air_heard x.tnc rx m (stream_heard x.tnc.radio (frame_of b) rx m))) (refused x, rx, m)
      ∙ done (handle_stream (frame_of b)) 25 (rw e) (rw e)

  pub on_tx : k ≡ 8 → {q : Applied × List ℕ} → q ≡ pick (eqb (length b) 0) (pick (leb MOST (length room)) (of_tx (tnc_tx x.tnc x.channel p s) room) (refused x, room)) (refused x, room) → turn_of q.0 r p s rx m q.1 ≡ applied k b (world_of x r p s rx m) room
  unfolding call_of body_len pick made not_made number_of number after bytes_after
  on_tx e q =
      ap (λ (q : Applied × List ℕ). turn_of q.0 r p s rx m q.1) (q ∙ ap (λ (y : Applied × List ℕ). pick (eqb (length b) 0) y (refused x, room)) (roomy {A = Applied × List ℕ} room (of_tx (tnc_tx x.tnc x.channel p s) room) (refused x, room) h))
      ∙ pick-ap (λ (q : Applied × List ℕ). turn_of q.0 r p s rx m q.1) (eqb (length b) 0) (of_tx (tnc_tx x.tnc x.channel p s) room) (refused x, room)
      ∙ done read_tx_frame 0 (rw e) (rw e)

  pub on_read : k ≡ 9 → {q : Applied × List ℕ} → q ≡ pick (eqb (length b) 1) (pick (leb MOST (length room)) (of_read x.channel (tnc_read x.tnc m (take (get_or b 0 0) room)) room) (refused x, room)) (refused x, room) → turn_of q.0 r p s rx m q.1 ≡ applied k b (world_of x r p s rx m) room
  unfolding call_of body_len pick made not_made number_of number after bytes_after
  on_read e q =
      ap (λ (q : Applied × List ℕ). turn_of q.0 r p s rx m q.1) (q ∙ ap (λ (y : Applied × List ℕ). pick (eqb (length b) 1) y (refused x, room)) (roomy {A = Applied × List ℕ} room (of_read x.channel (tnc_read x.tnc m (take (get_or b 0 0) room)) room) (refused x, room) h))
      ∙ pick-ap (λ (q : Applied × List ℕ). turn_of q.0 r p s rx m q.1) (eqb (length b) 1) (of_read x.channel (tnc_read x.tnc m (take (get_or b 0 0) room)) room) (refused x, room)
      ∙ done (read_kiss (take (get_or b 0 0) room)) 1 (rw e) (rw e)
