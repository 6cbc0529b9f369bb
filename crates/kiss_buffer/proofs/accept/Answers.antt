-- `kiss_buffer::accept` meets its contract. Assumes nothing.
use Rattle.std.proofs.Common.{ℕ, List, ◌+◌, ◌-◌, ◌≤◌, min, ◌≡◌, sym, ap, ◌∙◌, arith}
use mathlib.Core.Bool.{false}
use mathlib.Core.List.{◌++◌}
use lib.ListN.{length, take, drop, length-take, length-append}
use lib.Seq.{sets, sets-eq}
use Rattle.std.specs.Prelude.{Ok}
use Rattle.room.specs.Room.{over}
use Rattle.room.proofs.Copies.{copied_in}
use Rattle.kiss_reader.specs.Reader.{STORE}
use Rattle.kiss_calls.specs.Inside.{accepted}
use Rattle.kiss_buffer.proofs.accept.Goals as goal

-- bytes put behind the first k of a room
put-behind : (d s : List ℕ) (k : ℕ) → k + length s ≤ length d → sets d k s ≡ over (take k d ++ s) d
put-behind d s k h =
    let n : length (take k d ++ s) ≡ k + length s = omega (arith, length-append (take k d) s, length-take k d) in
    sets-eq s d k h ∙ ap (λ (m : ℕ). take k d ++ s ++ drop m d) (sym n)

pub returns : goal.returns
unfolding accepted
returns c =
    let a = c.args in
    let o = a.offered.now in let d = a.store.now in let n = c.min-count.result in
    let e : n ≡ min (length o) (STORE - a.kept) = c.min-count.ensures in
    let fit : a.kept + length (take n o) ≤ length d = omega (arith, length-take n o, e, c.requires) in
    let r = copied_in (take n o) d a.kept c.copy_in.ensures fit ∙ put-behind d (take n o) a.kept fit ∙ ap (λ (m : ℕ). over (take a.kept d ++ take m o) d) e in
    λ t. (record { answer = Ok (e t); buffer = record { filled = a.kept + e t; taken = false } }, r t)
