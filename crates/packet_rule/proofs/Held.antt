-- A place is held until the read behind its last frame. Assumes nothing.
use Prim.Native.Nat.{ℕ, zero, suc, ◌+◌, ◌%◌}
use mathlib.Core.Path.{◌≡◌, refl, sym, ap, ◌∙◌}
use mathlib.Core.Logic.{◌≢◌}
use mathlib.Core.Bool.{Bool, true, false, false≢true}
use mathlib.Core.List.{List, []}
use lib.Dec.{eqb}
use lib.ListN.{length}
use Rattle.std.specs.Prelude.{Result, Ok, Err, Option, Some, None}
use Rattle.choice.specs.Pick.{pick, pick_all}
use Rattle.packets.specs.declared.PacketQueue.{PacketQueue}
use Rattle.packets.specs.declared.PacketRead.{PacketRead}
use Rattle.packets.specs.declared.Pushed.{Pushed}
use Rattle.room.specs.declared.LentError.{LentError}
use Rattle.room.specs.declared.LentError.TheVariants.{WrongStore, OutOfBounds}
use Rattle.protocol.specs.declared.lsf.LsfFrame.{LsfFrame}
use Rattle.protocol.specs.declared.PacketFrame.{PacketFrame}
use Rattle.protocol.specs.declared.ModulatorFrame.{ModulatorFrame}
use Rattle.protocol.specs.declared.ModulatorFrame.TheVariants.{Lsf, Packet, EndOfTransmission}
use Rattle.packets.specs.Queue.{STORE, Made, malformed, unfit, overlong, fills, made_basic, made_full, is_empty, sound_queue, here, with_packet, obeyed, pushing, pushed_basic, pushed_full, with_place, advanced, lsf_read, data_read, turn, walk, read_next, frames_in}
use Rattle.packet_rule.specs.Promises.{given, PushNeverEmpties, FrameKeepsItsPlace, HeldIsAnswered}

-- ---- pushes

-- a place that is taken is held, whether the queue is full then or not
taken_holds : (q : PacketQueue) (len : ℕ) → is_empty (with_packet q len) ≡ false
unfolding is_empty with_packet pick
taken_holds q len = by (eqb ((q.next + 1) % 4) q.curr)
  where
    by : (b : Bool) → pick b false b ≡ false
    by true = refl
    by false = refl

obeyed-holds : (q : PacketQueue) (store : List ℕ) (made : Made) → is_empty q ≡ false → is_empty (obeyed q store made).0.queue ≡ false
unfolding obeyed
obeyed-holds q store malformed e = e
obeyed-holds q store unfit e = e
obeyed-holds q store overlong e = e
obeyed-holds q store (fills room len) e = taken_holds q len

-- a place is held in what a push leaves
abbrev Held : Pushed × List ℕ → Type 0
Held r = is_empty r.0.queue ≡ false

pushing-holds : (q : PacketQueue) (store : List ℕ) (made : Made) → is_empty q ≡ false → is_empty (pushing q store made).0.queue ≡ false
unfolding pushing
pushing-holds q store made e =
    pick_all Held (eqb (length store) STORE) _ _
    (λ l. pick_all Held (sound_queue q) _ _ (λ s. pick_all Held q.full _ _ (λ f. e) (λ f. obeyed-holds q store made e)) (λ s. e))
    (λ l. e)

pub push_never_empties : PushNeverEmpties
unfolding pushed_basic pushed_full
push_never_empties q store frame e = (pushing-holds q store (made_basic frame) e, pushing-holds q store (made_full frame) e)

-- ---- reads

-- what a read of places gives: a frame of one that is held on, or the end
pub data Walked : PacketRead → Type 0 where
  lsf_given : {r : PacketRead} {lsf : LsfFrame} → r.answer ≡ Ok (Some (Lsf lsf)) → is_empty r.queue ≡ false → Walked r
  piece_given : {r : PacketRead} {piece : PacketFrame} → r.answer ≡ Ok (Some (Packet piece)) → is_empty r.queue ≡ false → Walked r
  over : {r : PacketRead} → r.answer ≡ Ok (Some EndOfTransmission) → Walked r

walked : (n : ℕ) (q : PacketQueue) (store : List ℕ) → Walked (walk n q store)
unfolding walk turn lsf_read data_read with_place is_empty
walked zero q store = over refl
walked (suc n) q store =
    pick_all Walked (is_empty q) _ _ (λ none. over refl) (λ some.
    pick_all Walked (here q).due _ _ (λ due. lsf_given refl some) (λ told.
    pick_all Walked (eqb (here q).sent (here q).len) _ _ (λ spent. walked n (advanced q) store) (λ more. piece_given refl some)))

-- what is known of a walk, of nothing and of refusals is known of a read
each_read : (P : PacketRead → Type 0) (q : PacketQueue) (store : List ℕ)
    → ((r : PacketRead) → Walked r → P r) → (is_empty q ≡ true → (r : PacketRead) → r.answer ≡ Ok None → P r) → ((r : PacketRead) → r.answer ≡ Err WrongStore → P r)
    → ((r : PacketRead) → r.answer ≡ Err OutOfBounds → P r) → P (read_next q store)
unfolding read_next
each_read P q store w n l b =
    pick_all P (eqb (length store) STORE) _ _
    (λ t. pick_all P (sound_queue q) _ _ (λ s. pick_all P (is_empty q) _ _ (λ e. n e _ refl) (λ e. w _ (walked 4 q store))) (λ s. b _ refl))
    (λ t. l _ refl)

-- an answer with no frame
no_frame_lem : (a : Result (Option ModulatorFrame) LentError) (r : PacketRead) → r.answer ≡ a → frames_in a ≡ [] → given r ≢ [] → ⊥
no_frame_lem a r e none some = some (ap frames_in e ∙ none)

pub frame_keeps_its_place : FrameKeepsItsPlace
frame_keeps_its_place q store =
    each_read (λ r. given r ≢ [] → is_empty r.queue ≡ false) q store held (λ e r a some. absurd (no_frame_lem (Ok None) r a refl some)) (λ r a some. absurd (no_frame_lem (Err WrongStore) r a refl some))
    (λ r a some. absurd (no_frame_lem (Err OutOfBounds) r a refl some))
  where
    held : (r : PacketRead) → Walked r → given r ≢ [] → is_empty r.queue ≡ false
    held r (lsf_given a e) some = e
    held r (piece_given a e) some = e
    held r (over a) some = absurd (no_frame_lem (Ok (Some EndOfTransmission)) r a refl some)

-- the answer that there is nothing, told from the others
abbrev is_nothing : Result (Option ModulatorFrame) LentError → Bool
is_nothing (Ok None) = true
is_nothing (Ok (Some frame)) = false
is_nothing (Err e) = false

other : {b : Result (Option ModulatorFrame) LentError} (a : Result (Option ModulatorFrame) LentError) → is_nothing a ≡ false → b ≡ a → b ≢ Ok None
other a f e n = false≢true (sym f ∙ sym (ap is_nothing e) ∙ ap is_nothing n)

pub held_is_answered : HeldIsAnswered
held_is_answered q store some =
    each_read (λ r. r.answer ≢ Ok None) q store held (λ none r a. absurd (false≢true (sym some ∙ none))) (λ r a. other (Err WrongStore) refl a) (λ r a. other (Err OutOfBounds) refl a)
  where
    held : (r : PacketRead) → Walked r → r.answer ≢ Ok None
    held r (lsf_given a e) = other _ refl a
    held r (piece_given a e) = other _ refl a
    held r (over a) = other _ refl a
