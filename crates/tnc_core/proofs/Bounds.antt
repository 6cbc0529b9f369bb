-- A sound TNC, part by part. Assumes nothing.
use Prim.Native.Nat.{◌≤◌}
use mathlib.Core.Bool.{Bool, true, false, not, false≢true}
use mathlib.Core.Path.{◌≡◌, refl, sym}
use borrow.Author.Tests.{le-leb, leb-true}
use Rattle.choice.specs.Pick.{pick, and_fst, and_snd, and_both}
use Rattle.kiss_reader.specs.Reader.{STORE as READER}
use Rattle.sending.specs.Sending.{sound_sending}
use Rattle.state.specs.State.{transmits}
use Rattle.radio.specs.Radio.{sound_radio}
use Rattle.tnc_core.specs.declared.Tnc.{Tnc}
use Rattle.tnc_core.specs.Tnc.{sound_tnc}

pub record Parts (t : Tnc) : Type 0 where
  pub its_filled : t.buffer.filled ≤ READER
  pub its_sending : sound_sending t.sending ≡ true
  pub its_radio : sound_radio t.radio ≡ true
  pub its_ptt : t.ptt ≡ transmits t.radio.state

-- the test that two flags are the same
on_as : (a b : Bool) → pick a b (not b) ≡ true → b ≡ a
unfolding pick
on_as true b e = e
on_as false true e = absurd (false≢true e)
on_as false false e = refl

as_on : (a b : Bool) → b ≡ a → pick a b (not b) ≡ true
unfolding pick
as_on true b e = e
as_on false true e = absurd (false≢true (sym e))
as_on false false e = refl

pub parts : (t : Tnc) → sound_tnc t ≡ true → Parts t
unfolding sound_tnc
parts t e =
    let a = and_snd _ _ e in let b = and_snd _ _ a in
    record {
      its_filled = leb-true t.buffer.filled READER (and_fst _ _ e);
      its_sending = and_fst _ _ a;
      its_radio = and_fst _ _ b;
      its_ptt = on_as (transmits t.radio.state) t.ptt (and_snd _ _ b);
    }

pub joined : (t : Tnc) → Parts t → sound_tnc t ≡ true
unfolding sound_tnc
joined t p =
    and_both (le-leb t.buffer.filled READER p.its_filled)
    (and_both p.its_sending (and_both p.its_radio (as_on (transmits t.radio.state) t.ptt p.its_ptt)))
