-- The promises of specs/Promises.antt are kept. Assumes nothing.
use Prim.Native.Nat.{ℕ, ◌+◌, ◌%◌, ◌≤◌}
use mathlib.Core.Bool.{Bool, true, false, false≢true}
use mathlib.Core.Logic.{◌≢◌}
use mathlib.Core.Path.{◌≡◌, refl, sym}
use native.Mathlib.Omega.{arith}
use lib.Dec.{ltb, leb, eqb}
use borrow.Author.Tests.{le-leb, leb-true}
use Rattle.choice.specs.Pick.{pick, pick_all, and, and_both}
use Rattle.channel.specs.declared.Channel.{Channel}
use Rattle.channel.specs.declared.ChannelSet.{ChannelSet}
use Rattle.std.specs.Prelude.{Ok, Err, Result}
use Rattle.channel.specs.declared.ChannelError.TheVariants.{OutOfBounds, OutOfRange}
use Rattle.channel.specs.declared.Access.TheVariants.{Sends, Waits}
use Rattle.channel.specs.declared.Access.{Access}
use Rattle.channel.specs.declared.ChannelError.{ChannelError}
use Rattle.channel.specs.declared.Accessed.{Accessed}
use Rattle.channel.specs.Access.{LAST, SLOT, sound_channel, with_clock, with_carrier, with_duplex, with_check, without_check, is_set, clock_set, carrier_set, duplex_set, is_accessed, check_later, check_due, accessed, set_number, access_number}
use Rattle.channel.specs.Promises.{NewIsSound, SoundStaysSound, RefusedKeepsAll, CarrierHoldsBack, DuplexSends}
use Rattle.channel.proofs.Bounds.{clock_bound, check_bound}

pub new_is_sound : NewIsSound
unfolding sound_channel and
new_is_sound = refl

-- ---- sound stays sound

bounded : (c : Channel) → c.clock ≤ LAST → c.check ≤ LAST + SLOT → sound_channel c ≡ true
unfolding sound_channel
bounded c h k = and_both (le-leb c.clock LAST h) (le-leb c.check (LAST + SLOT) k)

later_sound : (c : Channel) → sound_channel c ≡ true → sound_channel (check_later c).channel ≡ true
unfolding check_later
later_sound c e = bounded (with_check c (c.clock + SLOT)) (clock_bound c e) (omega (arith, clock_bound c e))

due_sound : (c : Channel) → sound_channel c ≡ true → sound_channel (check_due c).channel ≡ true
unfolding check_due
due_sound c e =
    pick_all (λ (a : Accessed). sound_channel a.channel ≡ true) (ltb c.clock c.check) _ _ (λ t. e)
    (λ t. pick_all (λ (a : Accessed). sound_channel a.channel ≡ true) c.carrier _ _ (λ u. later_sound c e)
    (λ u. pick_all (λ (a : Accessed). sound_channel a.channel ≡ true) (eqb (c.clock % 4) 3) _ _
    (λ v. bounded (without_check c) (clock_bound c e) (check_bound c e)) (λ v. later_sound c e)))

access_sound : (c : Channel) → sound_channel c ≡ true → sound_channel (accessed c).channel ≡ true
unfolding accessed pick
access_sound c e =
    rw e (pick_all (λ (a : Accessed). sound_channel a.channel ≡ true) c.duplex _ _ (λ t. e)
    (λ t. pick_all (λ (a : Accessed). sound_channel a.channel ≡ true) c.waits _ _ (λ u. due_sound c e)
    (λ u. pick_all (λ (a : Accessed). sound_channel a.channel ≡ true) c.carrier _ _ (λ v. later_sound c e) (λ v. e))))

clock_sound : (c : Channel) → sound_channel c ≡ true → (n : ℕ) → sound_channel (clock_set c n).channel ≡ true
unfolding clock_set pick
clock_sound c e n =
    rw e (pick_all (λ (s : ChannelSet). sound_channel s.channel ≡ true) (leb n LAST) _ _
    (λ t. bounded (with_clock c n) (leb-true n LAST t) (check_bound c e)) (λ t. e))

pub sound_stays_sound : SoundStaysSound
unfolding carrier_set duplex_set pick
sound_stays_sound c e =
    record {
      by_clock = clock_sound c e;
      by_carrier = λ b. rw e (bounded (with_carrier c b) (clock_bound c e) (check_bound c e));
      by_duplex = λ b. rw e (bounded (with_duplex c b) (clock_bound c e) (check_bound c e));
      by_access = access_sound c e;
    }

-- ---- refusals

-- a setter that is refused only for the state
set_keeps : (c d : Channel) (t : Bool) → set_number (pick t (is_set (Ok tt) d) (is_set (Err OutOfBounds) c)).answer ≢ 0 → (pick t (is_set (Ok tt) d) (is_set (Err OutOfBounds) c)).channel ≡ c
unfolding pick
set_keeps c d true f = absurd (f refl)
set_keeps c d false f = refl

clock_keeps : (c : Channel) (n : ℕ) → set_number (clock_set c n).answer ≢ 0 → (clock_set c n).channel ≡ c
unfolding clock_set pick
clock_keeps c n = by (sound_channel c) (leb n LAST)
  where
    by : (t u : Bool) → set_number (pick t (pick u (is_set (Ok tt) (with_clock c n)) (is_set (Err OutOfRange) c)) (is_set (Err OutOfBounds) c)).answer ≢ 0
        → (pick t (pick u (is_set (Ok tt) (with_clock c n)) (is_set (Err OutOfRange) c)) (is_set (Err OutOfBounds) c)).channel ≡ c
    by true true f = absurd (f refl)
    by true false f = refl
    by false u f = refl

-- what waits or sends is answer 0
due_answered : (c : Channel) → access_number (check_due c).answer ≡ 0
unfolding check_due check_later
due_answered c =
    pick_all (λ (a : Accessed). access_number a.answer ≡ 0) (ltb c.clock c.check) _ _ (λ t. refl)
    (λ t. pick_all (λ (a : Accessed). access_number a.answer ≡ 0) c.carrier _ _ (λ u. refl)
    (λ u. pick_all (λ (a : Accessed). access_number a.answer ≡ 0) (eqb (c.clock % 4) 3) _ _ (λ v. refl) (λ v. refl)))

-- the choices of `accessed`, with what a pending check comes to
abbrev chosen : Channel → Bool → Bool → Bool → Bool → Accessed → Accessed
chosen c sound duplex waits carrier due =
    pick sound (pick duplex (is_accessed (Ok Sends) c) (pick waits due (pick carrier (check_later c) (is_accessed (Ok Sends) c)))) (is_accessed (Err OutOfBounds) c)

access_keeps : (c : Channel) → access_number (accessed c).answer ≢ 0 → (accessed c).channel ≡ c
unfolding accessed check_later pick
access_keeps c = by (sound_channel c) c.duplex c.waits c.carrier (check_due c) (due_answered c)
  where
    by : (t d w r : Bool) (due : Accessed) → access_number due.answer ≡ 0 → access_number (chosen c t d w r due).answer ≢ 0 → (chosen c t d w r due).channel ≡ c
    by true true w r due e f = absurd (f refl)
    by true false true r due e f = absurd (f e)
    by true false false true due e f = absurd (f refl)
    by true false false false due e f = absurd (f refl)
    by false d w r due e f = refl

pub refused_keeps_all : RefusedKeepsAll
unfolding carrier_set duplex_set
refused_keeps_all c =
    record {
      by_clock = clock_keeps c;
      by_carrier = λ b. set_keeps c (with_carrier c b) (sound_channel c);
      by_duplex = λ b. set_keeps c (with_duplex c b) (sound_channel c);
      by_access = access_keeps c;
    }

-- ---- carrier and duplex

waits_not : (a : (Result Access ChannelError)) → a ≡ (Ok Waits) → a ≢ (Ok Sends)
waits_not a e f = let z : ◌≡◌ {A = ℕ} 0 1 = cc in omega arith

refused-not : (a : (Result Access ChannelError)) → a ≡ (Err OutOfBounds) → a ≢ (Ok Sends)
refused-not a e f = let z : ◌≡◌ {A = ℕ} 0 1 = cc in omega arith

due_waits : (c : Channel) → c.carrier ≡ true → (check_due c).answer ≡ (Ok Waits)
unfolding check_due check_later pick
due_waits c h = rw h (pick_all (λ (a : Accessed). a.answer ≡ (Ok Waits)) (ltb c.clock c.check) _ _ (λ t. refl) (λ t. refl))

pub carrier_holds_back : CarrierHoldsBack
unfolding accessed check_later pick
carrier_holds_back c h d = by (sound_channel c) c.duplex c.waits c.carrier (check_due c) d h (due_waits c h)
  where
    by : (t d w r : Bool) (due : Accessed) → d ≡ false → r ≡ true → due.answer ≡ (Ok Waits) → (chosen c t d w r due).answer ≢ (Ok Sends)
    by false d w r due e f q = refused-not (Err OutOfBounds) refl
    by true true w r due e f q = absurd (false≢true (sym e))
    by true false true r due e f q = waits_not due.answer q
    by true false false true due e f q = waits_not (Ok Waits) refl
    by true false false false due e f q = absurd (false≢true f)

pub duplex_sends : DuplexSends
unfolding accessed pick
duplex_sends c e d = rw (e, d)
