-- What a sound message says of its numbers, and what a read of one comes to. Assumes nothing.
use Prim.Native.Nat.{ℕ, ◌+◌, ◌≤◌}
use mathlib.Core.Bool.{true}
use mathlib.Core.Path.{◌≡◌}
use mathlib.Core.List.{List}
use lib.ListN.{length, take, drop}
use borrow.Author.Tests.{eq-eqb, leb-true}
use Rattle.choice.specs.Pick.{pick, and_fst, and_snd}
use Rattle.room.specs.Room.{over}
use Rattle.outgoing.specs.declared.Outgoing.{Outgoing}
use Rattle.std.specs.Prelude.{Ok}
use Rattle.outgoing.specs.Message.{STORE, sound_message, read_up_to, given, host_read}

pub sound_read : (o : Outgoing) → sound_message o ≡ true → o.read ≤ o.len
unfolding sound_message
sound_read o e = leb-true o.read o.len (and_fst _ _ e)

pub sound_len : (o : Outgoing) → sound_message o ≡ true → o.len ≤ STORE
unfolding sound_message
sound_len o e = leb-true o.len STORE (and_snd _ _ e)

pub read_sound : (o : Outgoing) (store target : List ℕ) → length store ≡ STORE → sound_message o ≡ true
    → (record { answer = Ok (given o target); outgoing = read_up_to o (o.read + given o target) }, over (take (given o target) (drop o.read store)) target)
    ≡ host_read o store target
unfolding host_read pick
read_sound o store target l e = rw (eq-eqb (length store) STORE l, e)
