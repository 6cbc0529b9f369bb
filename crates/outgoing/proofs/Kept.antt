-- The promises of specs/Promises.antt are kept. Assumes nothing.
use Prim.Native.Nat.{ℕ, ◌+◌, ◌-◌, ◌≤◌}
use mathlib.Core.Bool.{Bool, true, false}
use mathlib.Core.Logic.{◌≢◌}
use mathlib.Core.Path.{◌≡◌, refl, sym, ap, ◌∙◌}
use mathlib.Core.List.{List, ◌++◌}
use native.Mathlib.Omega.{arith}
use lib.Dec.{eqb}
use lib.ListN.{length, take, drop, length-drop}
use lib.Seq.{take_at, take-add, drop-drop, length-take-le}
use borrow.Author.Tests.{le-leb, eq-eqb, eqb-true}
use Rattle.choice.specs.Pick.{pick, pick_all, and, and_both}
use Rattle.outgoing.specs.declared.Outgoing.{Outgoing}
use Rattle.outgoing.specs.declared.HostRead.{HostRead}
use Rattle.room.specs.declared.LentError.TheVariants.{WrongStore, OutOfBounds}
use Rattle.std.specs.Prelude.{Ok}
use Rattle.outgoing.specs.Message.{STORE, no_message, sound_message, left, read_up_to, given, not_read, host_read, read_count, host_number}
use Rattle.outgoing.specs.Promises.{NewIsSound, SoundStaysSound, RefusedKeepsAll, ReadGivesTheNext, RoomTakesAll}
use Rattle.outgoing.proofs.Messages.{sound_read, sound_len, read_sound}

pub new_is_sound : NewIsSound
unfolding sound_message and
new_is_sound = refl

-- ---- sound stays sound

bounded : (o : Outgoing) → o.read ≤ o.len → o.len ≤ STORE → sound_message o ≡ true
unfolding sound_message
bounded o h k = and_both (le-leb o.read o.len h) (le-leb o.len STORE k)

read_up_sound : (o : Outgoing) (end : ℕ) → sound_message o ≡ true → end ≤ o.len → sound_message (read_up_to o end) ≡ true
unfolding read_up_to
read_up_sound o end e h =
    pick_all (λ (x : Outgoing). sound_message x ≡ true) (eqb end o.len) no_message (record { len = o.len; read = end }) (λ t. new_is_sound)
    (λ t. bounded (record { len = o.len; read = end }) h (sound_len o e))

pub sound_stays_sound : SoundStaysSound
unfolding host_read
sound_stays_sound o store target e =
    pick_all (λ (x : HostRead × List ℕ). sound_message x.0.outgoing ≡ true) (eqb (length store) STORE) _ _
    (λ t. pick_all (λ (x : HostRead × List ℕ). sound_message x.0.outgoing ≡ true) (sound_message o) _ _
    (λ u. read_up_sound o (o.read + given o target) e (omega (arith, sound_read o e))) (λ u. e))
    (λ t. e)

-- ---- refusals

pub refused_keeps_all : RefusedKeepsAll
unfolding host_read pick
refused_keeps_all o store target = by (eqb (length store) STORE) (sound_message o) _ refl
  where
    chosen : Bool → Bool → HostRead × List ℕ → HostRead × List ℕ
    chosen t u done = pick t (pick u done (not_read OutOfBounds o target)) (not_read WrongStore o target)

    by : (t u : Bool) (done : HostRead × List ℕ) → host_number done.0.answer ≡ 0 → host_number (chosen t u done).0.answer ≢ 0
        → ((chosen t u done).0.outgoing ≡ o) × ((chosen t u done).1 ≡ target)
    by true true done e f = absurd (f e)
    by true false done e f = (refl, refl)
    by false u done e f = (refl, refl)

-- ---- reading in pieces

-- what is left after n bytes
left_after_lem : (o : Outgoing) (store : List ℕ) (n : ℕ) → o.read + n ≤ o.len → left (read_up_to o (o.read + n)) store ≡ take (o.len - o.read - n) (drop (o.read + n) store)
unfolding left read_up_to
left_after_lem o store n h =
    pick_all (λ (x : Outgoing). take (x.len - x.read) (drop x.read store) ≡ take (o.len - o.read - n) (drop (o.read + n) store))
    (eqb (o.read + n) o.len) no_message (record { len = o.len; read = o.read + n })
    (λ t. let z : o.len - o.read - n ≡ 0 = omega (arith, eqb-true (o.read + n) o.len t) in rw z)
    (λ t. let q : o.len - (o.read + n) ≡ o.len - o.read - n = omega arith in rw q)

-- n bytes, then the rest
pieces : (m n : ℕ) (l : List ℕ) → n ≤ m → take n l ++ take (m - n) (drop n l) ≡ take m l
pieces m n l h = sym (take-add n (m - n) l) ∙ ap (λ (k : ℕ). take k l) {x = n + (m - n)} {y = m} (omega arith)

pub read_gives_the_next : ReadGivesTheNext
unfolding left
read_gives_the_next o store target l e =
    let r = o.read in let n = given o target in let part = take n (drop r store) in
    let s = sym (read_sound o store target l e) in
    let h : r + n ≤ o.len = omega (arith, sound_read o e) in
    let k : length part ≡ n = length-take-le n (drop r store) (omega (arith, length-drop r store, sound_len o e)) in
    ap (λ (x : HostRead × List ℕ). take (read_count x.0.answer) x.1 ++ left x.0.outgoing store) s
    ∙ ap (λ (x : List ℕ). x ++ left (read_up_to o (r + n)) store) (take_at part (drop (length part) target) n k)
    ∙ ap (λ (x : List ℕ). part ++ x) (left_after_lem o store n h ∙ ap (take (o.len - r - n)) (sym (drop-drop n r store)))
    ∙ pieces (o.len - r) n (drop r store) (omega arith)

pub room_takes_all : RoomTakesAll
unfolding left read_up_to pick
room_takes_all o store target l e f =
    let r = o.read in let m = o.len - r in
    let k : length (take m (drop r store)) ≡ m = length-take-le m (drop r store) (omega (arith, length-drop r store, sound_len o e)) in
    let n : given o target ≡ m = omega (arith, k) in
    let q : r + given o target ≡ o.len = omega (arith, n, sound_read o e) in
    let s = sym (read_sound o store target l e) in
    (ap (λ (x : HostRead × List ℕ). x.0.answer) s ∙ ap Ok (n ∙ sym k), ap (λ (x : HostRead × List ℕ). x.0.outgoing) s ∙ rw (eq-eqb (r + given o target) o.len q))
