-- A body copied into an array of its length, for the events whose body is a number or a frame. Assumes nothing.
use Prim.Native.Nat.{ℕ}
use mathlib.Core.Path.{◌≡◌, ◌∙◌}
use mathlib.Core.List.{List}
use native.Mathlib.Omega.{arith}
use lib.ListN.{length}
use Rattle.std.specs.Prelude.{Result}
use Rattle.room.specs.declared.NoRoom.{NoRoom}
use Rattle.room.specs.Room.{copied}
use Rattle.room.proofs.Runs.{put_all}
use Rattle.room.proofs.Copies.{copied_in}

pub whole_copy : (s z : List ℕ) {r : (Result (Unit {0}) NoRoom)} {e : List ℕ} → length s ≡ length z → (r, e) ≡ copied s z 0 → e ≡ s
whole_copy s z h q = copied_in s z 0 q (omega arith) ∙ put_all z s h
