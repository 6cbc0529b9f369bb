-- The promises of specs/Promises.antt are kept. Assumes nothing.
use Prim.Native.Nat.{ℕ, zero, suc, ◌+◌, ◌*◌, ◌≤◌}
use mathlib.Core.Bool.{Bool, true, false}
use mathlib.Core.Logic.{◌≢◌}
use mathlib.Core.Path.{◌≡◌, refl, sym, ap, ◌∙◌}
use mathlib.Core.List.{List, ◌∷◌, ◌++◌, append-nil}
use native.Mathlib.Omega.{arith}
use borrow.Author.Tests.{leb-true}
use lib.Dec.{eqb, leb}
use lib.ListN.{length, take, drop, length-append}
use lib.Seq.{length-take-le, take_at, drop_at}
use Rattle.choice.specs.Pick.{pick, and, pick_all}
use Rattle.choice.specs.Cases.{all_pass}
use Rattle.room.specs.Room.{placed}
use Rattle.room.proofs.Places.{placed-length}
use Rattle.crc.specs.Crc.{crc_of, two_bytes, sealed}
use Rattle.protocol.specs.Lsf.{part}
use Rattle.protocol.specs.Basic.{basic_lsf}
use Rattle.std.specs.Prelude.{Ok, Err, Result, ℕ, Option, Some, None}
use Rattle.packets.specs.declared.Push.TheVariants.{Ignored}
use Rattle.kiss_layout.specs.declared.PushError.TheVariants.{WrongStore, OutOfBounds}
use Rattle.kiss_layout.specs.declared.KissError.{KissError}
use Rattle.kiss_layout.specs.Read.{decoded}
use Rattle.packets.specs.declared.PacketQueue.{PacketQueue}
use Rattle.packets.specs.declared.Pushed.{Pushed}
use Rattle.packets.specs.declared.PacketRead.{PacketRead}
use Rattle.room.specs.declared.LentError.{LentError}
use Rattle.protocol.specs.declared.ModulatorFrame.{ModulatorFrame}
use Rattle.room.specs.declared.LentError.TheVariants.{WrongStore as NoStore, OutOfBounds as NoState}
use Rattle.packets.specs.Frames.{frames_of, zeros, data_frames, carried_lsf, carried_body}
use Rattle.packets.specs.Queue.{ROOM, DATA, STORE, RAW, sound_place, sound_queue, is_empty, Made, malformed, unfit, overlong, fills, basic_room, basic, full, made_basic, made_full, stored, not_pushed, obeyed, pushing, pushed_basic, pushed_full, advanced, lsf_read, data_read, turn, walk, not_read, read_next, read_number}
use Rattle.packets.specs.Inside.{count_of}
use Rattle.packets.specs.Promises.{KeptBy, RefusedKeepsAll, of_packets, GivesPackets, NewIsSound, Sound, SoundStaysSound, BasicIsSealed, Rejoined}
use Rattle.packets.proofs.Bounds.{at_here, sound_advanced, sound_with, sound_packet}
use Rattle.packets.proofs.Decoding.{in_room}
use Rattle.packets.proofs.Rooms.{length-zeros, basic_lsf_length}
use Rattle.packets.proofs.Chunks.{data_carried, data_no_lsf}

-- ---- refusals

push_keeps : (q : PacketQueue) (s : List ℕ) (m : Made) → KeptBy q s (pushing q s m)
unfolding pushing pick obeyed
push_keeps q s m = by (eqb (length s) STORE) (sound_queue q) q.full m
  where
    by : (a b c : Bool) (m : Made)
        → KeptBy q s (pick a (pick b (pick c (not_pushed (Ok Ignored) q s) (obeyed q s m)) (not_pushed (Err OutOfBounds) q s)) (not_pushed (Err WrongStore) q s))
    by true true true m f = (refl, refl)
    by true true false malformed f = (refl, refl)
    by true true false unfit f = (refl, refl)
    by true true false overlong f = absurd (f refl)
    by true true false (fills r n) f = absurd (f refl)
    by true false c m f = (refl, refl)
    by false b c m f = (refl, refl)

walk-number : (n : ℕ) (q : PacketQueue) (s : List ℕ) → read_number (walk n q s).answer ≡ 0
unfolding walk turn lsf_read data_read
walk-number zero q s = refl
walk-number (suc n) q s =
    pick_all (λ (r : PacketRead). read_number r.answer ≡ 0) _ _ _ (λ _. refl)
    (λ _. pick_all (λ (r : PacketRead). read_number r.answer ≡ 0) _ _ _ (λ _. refl)
    (λ _. pick_all (λ (r : PacketRead). read_number r.answer ≡ 0) _ _ _ (λ _. walk-number n (advanced q) s) (λ _. refl)))

read_keeps : (q : PacketQueue) (s : List ℕ) → read_number (read_next q s).answer ≢ 0 → (read_next q s).queue ≡ q
unfolding read_next pick
read_keeps q s = by (eqb (length s) STORE) (sound_queue q) (is_empty q)
  where
    chosen : Bool → Bool → Bool → PacketRead
    chosen a b c = pick a (pick b (pick c (not_read (Ok None) q) (walk 4 q s)) (not_read (Err NoState) q)) (not_read (Err NoStore) q)

    by : (a b c : Bool) → read_number (chosen a b c).answer ≢ 0 → (chosen a b c).queue ≡ q
    by true true true f = refl
    by true true false f = absurd (f (walk-number 4 q s))
    by true false c f = refl
    by false b c f = refl

pub refused_keeps_all : RefusedKeepsAll
unfolding pushed_basic pushed_full
refused_keeps_all q s = (λ f. (push_keeps q s (made_basic f), push_keeps q s (made_full f)), read_keeps q s)

-- the frame in an answer, where there is one, is of packets
abbrev packets_only : Result (Option ModulatorFrame) LentError → Bool
packets_only (Ok None) = true
packets_only (Ok (Some frame)) = of_packets frame
packets_only (Err e) = true

abbrev PacketsOnly : PacketRead → Type 0
PacketsOnly r = packets_only r.answer ≡ true

walk_gives : (n : ℕ) (q : PacketQueue) (s : List ℕ) → PacketsOnly (walk n q s)
unfolding walk turn lsf_read data_read
walk_gives zero q s = refl
walk_gives (suc n) q s =
    pick_all PacketsOnly _ _ _ (λ _. refl) (λ _. pick_all PacketsOnly _ _ _ (λ _. refl) (λ _. pick_all PacketsOnly _ _ _ (λ _. walk_gives n (advanced q) s) (λ _. refl)))

pub gives_packets : GivesPackets
unfolding read_next
gives_packets q s frame e =
    sym (ap packets_only e)
    ∙ pick_all PacketsOnly _ _ _ (λ _. pick_all PacketsOnly _ _ _ (λ _. pick_all PacketsOnly _ _ _ (λ _. refl) (λ _. walk_gives 4 q s)) (λ _. refl)) (λ _. refl)

-- ---- bounds

pub new_is_sound : NewIsSound
unfolding sound_queue sound_place all_pass and pick
new_is_sound = refl

-- what a frame fills is a room of 855 bytes and at most 825 of data
pub data Fits : Made → Type 0 where
  fits_malformed : Fits malformed
  fits_unfit : Fits unfit
  fits_overlong : Fits overlong
  fits_fills : {room : List ℕ} {len : ℕ} → length room ≡ ROOM → len ≤ DATA → Fits (fills room len)

basic_room_length : (n : ℕ) (d : List ℕ) → length d ≡ 824 → n ≤ 822 → length (basic_room n d) ≡ ROOM
unfolding basic_room
basic_room_length n d l h =
    let c : List ℕ = two_bytes (crc_of (RAW ∷ take n d)) in
    omega (arith, length-append basic_lsf (RAW ∷ placed c d n), basic_lsf_length, placed-length c d n (omega arith))

basic_fit : (x : Result ℕ KissError) (d : List ℕ) → length d ≡ 824 → Fits (basic x d)
unfolding basic
basic_fit (Err e) d l = fits_malformed
basic_fit (Ok n) d l =
    pick_all Fits (leb n 822) _ _ (λ h. let k = leb-true n 822 h in fits_fills (basic_room_length n d l k) (omega arith)) (λ _. fits_overlong)

full_fit : (x : Result ℕ KissError) (d : List ℕ) → length d ≡ ROOM → count_of x ≤ ROOM → Fits (full x d)
unfolding full
full_fit (Err e) d l h = fits_malformed
full_fit (Ok n) d l h = pick_all Fits _ _ _ (λ _. fits_fills l (omega arith)) (λ _. fits_unfit)

pub made_basic_fit : (f : List ℕ) → Fits (made_basic f)
unfolding made_basic
made_basic_fit f = basic_fit (decoded f (zeros 824)).0 (decoded f (zeros 824)).1 ((in_room f (zeros 824)).0 ∙ length-zeros 824)

pub made_full_fit : (f : List ℕ) → Fits (made_full f)
unfolding made_full
made_full_fit f =
    let r = in_room f (zeros ROOM) in
    full_fit (decoded f (zeros ROOM)).0 (decoded f (zeros ROOM)).1 (r.0 ∙ length-zeros ROOM) (omega (arith, r.1, length-zeros ROOM))

module _ (q : PacketQueue) (s : List ℕ) (h : Sound q s) where
  stored-length : (r : List ℕ) → length r ≡ ROOM → length (stored s q.next r) ≡ STORE
  stored-length r l = placed-length r s (ROOM * q.next) (omega (arith, at_here q h.its_state, h.its_store)) ∙ h.its_store

  abbrev SoundAfter : Pushed × List ℕ → Type 0
  SoundAfter p = Sound p.0.queue p.1

  obeyed_sound : (m : Made) → Fits m → SoundAfter (obeyed q s m)
  unfolding obeyed
  obeyed_sound malformed f = h
  obeyed_sound unfit f = h
  obeyed_sound overlong f = record { its_store = stored-length (zeros ROOM) (length-zeros ROOM); its_state = h.its_state }
  obeyed_sound (fills r n) (fits_fills l k) = record { its_store = stored-length r l; its_state = sound_packet q h.its_state n k }

  pushing_sound : (m : Made) → Fits m → SoundAfter (pushing q s m)
  unfolding pushing
  pushing_sound m f =
      pick_all SoundAfter _ _ _ (λ _. pick_all SoundAfter _ _ _ (λ _. pick_all SoundAfter _ _ _ (λ _. h) (λ _. obeyed_sound m f)) (λ _. h)) (λ _. h)

lsf_sound : (q : PacketQueue) (s : List ℕ) → sound_queue q ≡ true → sound_queue (lsf_read q s).queue ≡ true
unfolding lsf_read
lsf_sound q s e = let a = at_here q e in sound_with q e _ a.sent a.len

data_sound : (q : PacketQueue) (s : List ℕ) → sound_queue q ≡ true → sound_queue (data_read q s).queue ≡ true
unfolding data_read
data_sound q s e = let a = at_here q e in sound_with q e _ (omega arith) a.len

walk_sound : (n : ℕ) (q : PacketQueue) (s : List ℕ) → sound_queue q ≡ true → sound_queue (walk n q s).queue ≡ true
unfolding walk turn
walk_sound zero q s e = e
walk_sound (suc n) q s e =
    pick_all (λ (r : PacketRead). sound_queue r.queue ≡ true) _ _ _ (λ _. e)
    (λ _. pick_all (λ (r : PacketRead). sound_queue r.queue ≡ true) _ _ _ (λ _. lsf_sound q s e)
    (λ _. pick_all (λ (r : PacketRead). sound_queue r.queue ≡ true) _ _ _ (λ _. walk_sound n (advanced q) s (sound_advanced q e)) (λ _. data_sound q s e)))

read_sound : (q : PacketQueue) (s : List ℕ) → sound_queue q ≡ true → sound_queue (read_next q s).queue ≡ true
unfolding read_next
read_sound q s e =
    pick_all (λ (r : PacketRead). sound_queue r.queue ≡ true) _ _ _
    (λ _. pick_all (λ (r : PacketRead). sound_queue r.queue ≡ true) _ _ _
    (λ _. pick_all (λ (r : PacketRead). sound_queue r.queue ≡ true) _ _ _ (λ _. e) (λ _. walk_sound 4 q s e)) (λ _. e)) (λ _. e)

pub sound_stays_sound : SoundStaysSound
unfolding pushed_basic pushed_full
sound_stays_sound q s h = (
  λ f. (pushing_sound q s h (made_basic f) (made_basic_fit f), pushing_sound q s h (made_full f) (made_full_fit f)),
  record { its_store = h.its_store; its_state = read_sound q s h.its_state },
)

-- ---- a port 0 packet

pub basic_is_sealed : BasicIsSealed
unfolding basic_room sealed
basic_is_sealed n d h =
    let c : List ℕ = two_bytes (crc_of (RAW ∷ take n d)) in
    let rest : List ℕ = drop (n + 2) d in
    let l : length (RAW ∷ (take n d ++ c)) ≡ n + 3 = omega (arith, length-append (take n d) c, length-take-le n d (omega arith)) in
    let lsf : take 30 (basic_lsf ++ (RAW ∷ placed c d n)) ≡ basic_lsf = take_at basic_lsf _ 30 basic_lsf_length in
    let body : part 30 (n + 3) (basic_lsf ++ (RAW ∷ placed c d n)) ≡ RAW ∷ (take n d ++ c) =
    ap (take (n + 3)) (drop_at basic_lsf (RAW ∷ placed c d n) 30 basic_lsf_length) ∙ take_at (RAW ∷ (take n d ++ c)) rest (n + 3) l in
    λ t. record { lsf = lsf t; body = body t }

-- ---- frames

pub rejoined : Rejoined
unfolding frames_of carried_lsf carried_body
rejoined p =
    let l : p.lsf ++ carried_lsf (data_frames 0 p.body) ≡ p.lsf = ap (λ (x : List ℕ). p.lsf ++ x) (data_no_lsf 0 p.body) ∙ append-nil p.lsf in
    λ t. record { lsf = l t; body = data_carried 0 p.body t }
