-- A packet is rebuilt from its frames. Assumes nothing.
use Prim.Native.Nat.{ℕ, ◌+◌, ◌*◌, ◌≤◌, ◌<◌}
use mathlib.Core.Path.{◌≡◌, refl, sym, ap, ◌∙◌, subst}
use mathlib.Core.List.{List, [], ◌∷◌, ◌++◌, append_assoc, append-nil}
use native.Mathlib.Omega.{arith}
use lib.ListN.{length, take, drop, length-append}
use lib.Seq.{length-take-le, take_at, drop_at}
use Rattle.room.specs.Room.{placed}
use Rattle.protocol.specs.Lsf.{part}
use Rattle.protocol.specs.declared.PacketFrame.{PacketFrame}
use Rattle.protocol.specs.declared.PacketFrameCounter.TheVariants.{Frame as Counted, FinalFrame as Final}
use Rattle.protocol.specs.declared.lsf.Mode.TheVariants.{Packet}
use Rattle.kiss_layout.specs.Build.{full_packet, frame_of}
use Rattle.state.specs.declared.State.TheVariants.{RxPacket}
use Rattle.state.specs.declared.Reception.{Reception}
use Rattle.state.specs.State.{transmits, reception_of}
use Rattle.std.specs.Prelude.{Ok}
use Rattle.radio.specs.declared.Heard.{Heard}
use Rattle.radio.specs.Radio.{answered}
use Rattle.tnc_air.specs.Collected.{place_of}
use Rattle.tnc_air.proofs.Orders.{next_one}
use Rattle.tnc_air.specs.Heard.{completed, collected_in, finished_after, packet_heard, counted}
use Rattle.radio.specs.Box.{Box, left_by, Sound}
use Rattle.tnc_air.specs.Promises.{AirFrame, lsf, packet, heard_at, after, after_all, numbered, last_of, joined, All25, ToldPacket, PacketIsRebuilt}
use Rattle.radio.proofs.Messages.{left_over}
use Rattle.radio.proofs.Kept.{listened_to}
use Rattle.tnc_air.proofs.Packets.{finished_as}
use Rattle.tnc_air.proofs.Kept.{heard, sound_stays_sound}

-- so many frames have come: the store begins with the LSF and their bytes
record Holding (x : Box) (bytes got : List ℕ) (k : ℕ) : Type 0 where
  sound : Sound x
  its_state : x.radio.state ≡ RxPacket k
  its_lsf : length bytes ≡ 30
  its_got : length got ≡ 25 * k
  its_start : take (place_of k) x.rx ≡ bytes ++ got

-- four runs of bytes, bracketed as the store has them
module _ (b g p rest : List ℕ) where
  front : (n : ℕ) → length b + length g + length p ≡ n → take n (((b ++ g) ++ p) ++ rest) ≡ b ++ (g ++ p)
  front n e = take_at ((b ++ g) ++ p) rest n (omega (arith, length-append (b ++ g) p, length-append b g, e)) ∙ append_assoc b g p

  bracketed : ((b ++ g) ++ p) ++ rest ≡ b ++ ((g ++ p) ++ rest)
  bracketed = ap (λ (w : List ℕ). w ++ rest) (append_assoc b g p) ∙ append_assoc b (g ++ p) rest

  first : (n : ℕ) → length b ≡ n → take n (((b ++ g) ++ p) ++ rest) ≡ b
  first n e = ap (take n) bracketed ∙ take_at b ((g ++ p) ++ rest) n e

  second : (n m : ℕ) → length b ≡ n → length g + length p ≡ m → part n m (((b ++ g) ++ p) ++ rest) ≡ g ++ p
  second n m e f =
      ap (part n m) bracketed ∙ ap (take m) (drop_at b ((g ++ p) ++ rest) n e) ∙ take_at (g ++ p) rest m (omega (arith, length-append g p, f))

module _ (x : Box) (bytes got : List ℕ) (k : ℕ) (h : Holding x bytes got k) where
  -- the frame is listened to
  taken : (f : PacketFrame) → heard_at x (packet f) ≡ counted f.counter x.radio f.payload x.rx x.out
  unfolding packet_heard
  taken f = listened_to x _ (record { sound = h.sound; not_sending = ap transmits h.its_state })

  -- one more frame
  module _ (p : List ℕ) (e : length p ≡ 25) (n : k < 32) where
    abbrev frame : AirFrame
    frame = packet (record { payload = p; counter = Counted k })

    grown : Heard × List ℕ
    grown = (answered (Ok tt) (record { state = RxPacket (k + 1); outgoing = x.radio.outgoing }), placed p x.rx (place_of k))

    came : heard_at x frame ≡ (grown.0, grown.1, x.out)
    unfolding grown
    came =
        let c = ap (λ (m : Reception). collected_in m x.radio k p x.rx) (ap reception_of h.its_state) ∙ sym (next_one x.radio k k p x.rx refl refl n refl) in
        taken (record { payload = p; counter = Counted k }) ∙ ap (λ (g : Heard × List ℕ). (g.0, g.1, x.out)) c

    grows : Holding (after x frame) bytes (got ++ p) (k + 1)
    unfolding grown
    grows =
        let rest = drop (place_of k + length p) x.rx in
        subst (λ r. Holding (left_by r) bytes (got ++ p) (k + 1)) (sym came)
        (record {
          sound = subst (λ r. Sound (left_by r)) came (sound_stays_sound x frame e h.sound);
          its_state = refl;
          its_lsf = h.its_lsf;
          its_got = omega (arith, length-append got p, h.its_got, e);
          its_start =
              ap (λ (w : List ℕ). take (place_of (k + 1)) ((w ++ p) ++ rest)) h.its_start
              ∙ front bytes got p rest (place_of (k + 1)) (omega (arith, h.its_lsf, h.its_got, e));
        })

  -- the last frame
  module _ (p : List ℕ) (len : ℕ) (e : length p ≡ 25) (n : len ≤ 25) where
    whole : List ℕ
    whole = completed k len p x.rx

    finished_now : heard_at x (last_of len p) ≡ finished_after k len p x.rx x.out
    finished_now = taken (record { payload = p; counter = Final len }) ∙ sym (finished_as x.radio len p x.rx x.out n (sym (ap reception_of h.its_state)) refl)

    q : List ℕ
    q = take len p

    its_q : length q ≡ len
    unfolding q
    its_q = length-take-le len p (omega (arith, e, n))

    rest : List ℕ
    rest = drop (place_of k + length q) x.rx

    laid : whole ≡ ((bytes ++ got) ++ q) ++ rest
    unfolding whole q rest
    laid = ap (λ (w : List ℕ). (w ++ q) ++ rest) h.its_start

    its_first : part 0 30 whole ≡ bytes
    its_first = ap (take 30) laid ∙ first bytes got q rest 30 h.its_lsf

    its_second : part 30 (25 * k + len) whole ≡ got ++ q
    its_second = ap (part 30 (25 * k + len)) laid ∙ second bytes got q rest 30 (25 * k + len) h.its_lsf (omega (arith, h.its_got, its_q))

    told_now : ToldPacket (after x (last_of len p)) bytes (got ++ take len p)
    unfolding finished_after whole q
    told_now =
        subst (λ r. ToldPacket (left_by r) bytes (got ++ take len p)) (sym finished_now)
        (record {
          its_state = refl;
          its_message =
              left_over (frame_of (full_packet (part 0 30 whole) (part 30 (25 * k + len) whole))) x.out
              ∙ (λ t. frame_of (full_packet (its_first t) (its_second t)));
        })

-- all frames, one after the other
all_told : (ps : List (List ℕ)) (x : Box) (bytes got : List ℕ) (k : ℕ) (p : List ℕ) (len : ℕ) → Holding x bytes got k → k + length ps ≤ 32 → All25 ps
    → length p ≡ 25 → len ≤ 25 → ToldPacket (after (after_all x (numbered k ps)) (last_of len p)) bytes (got ++ (joined ps ++ take len p))
unfolding after_all numbered joined All25
all_told [] x bytes got k p len h n a e l = told_now x bytes got k h p len e l
all_told (f ∷ ps) x bytes got k p len h n a e l =
    let m : k < 32 = omega (arith, n) in
    subst (ToldPacket (after (after_all x (numbered k (f ∷ ps))) (last_of len p)) bytes)
    (append_assoc got f (joined ps ++ take len p) ∙ ap (λ w. got ++ w) (sym (append_assoc f (joined ps) (take len p))))
    (all_told ps (after x (packet (record { payload = f; counter = Counted k }))) bytes (got ++ f) (k + 1) p len (grows x bytes got k h f a.0 m) (omega (arith, n)) a.1 e l)

pub packet_is_rebuilt : PacketIsRebuilt
packet_is_rebuilt x bytes ps p len g e m n a f l = all_told ps (after x (lsf bytes)) bytes [] 0 p len begins (omega (arith, n)) a f l
  where
    begins : Holding (after x (lsf bytes)) bytes [] 0
    begins =
        subst (λ r. Holding (left_by r) bytes [] 0) (sym (heard x bytes Packet g m))
        (record {
          sound = subst (λ r. Sound (left_by r)) (heard x bytes Packet g m) (sound_stays_sound x (lsf bytes) e g.sound);
          its_state = refl;
          its_lsf = e;
          its_got = refl;
          its_start = take_at bytes (drop (length bytes) x.rx) 30 e ∙ sym (append-nil bytes);
        })
