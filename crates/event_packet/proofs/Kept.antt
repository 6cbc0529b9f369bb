-- The promises are kept. Assumes nothing.
use Prim.Native.Nat.{ℕ, ◌+◌, ◌-◌, ◌%◌}
use native.Mathlib.Omega.{arith}
use mathlib.Core.Path.{◌≡◌, refl, ap, ◌∙◌}
use mathlib.Core.List.{List, [], ◌∷◌, ◌++◌}
use borrow.Author.Tests.{lt-ltb, le-ltb}
use lib.ListN.{get_or, take, length-append}
use lib.Seq.{take_at, get_or-append-add}
use Rattle.choice.specs.Pick.{pick}
use Rattle.protocol.specs.declared.PacketFrameCounter.{PacketFrameCounter}
use Rattle.protocol.specs.declared.PacketFrameCounter.TheVariants.{Frame, FinalFrame}
use Rattle.event_packet.specs.Packet.{counter_of, packet_of, counter_byte, packet_body}
use Rattle.event_packet.specs.Promises.{InSeven, PacketRoundTrip}

counter_read : (c : PacketFrameCounter) → InSeven c → counter_of (counter_byte c) ≡ c
unfolding counter_of counter_byte pick
counter_read (Frame i) h = let e : i % 128 ≡ i = omega arith in rw (e, lt-ltb i 128 h)
counter_read (FinalFrame n) h =
    let e : 128 + n % 128 - 128 ≡ n = omega arith in rw (le-ltb (128 + n % 128) 128 (omega arith)) (ap FinalFrame e)

pub packet_round_trip : PacketRoundTrip
unfolding packet_of packet_body
packet_round_trip f long small =
    let b : List ℕ = counter_byte f.counter ∷ [] in
    let at : get_or (f.payload ++ b) 25 0 ≡ counter_byte f.counter = ap (λ (m : ℕ). get_or (f.payload ++ b) m 0) (rw long refl) ∙ get_or-append-add f.payload b 0 0 in
    let front : take 25 (f.payload ++ b) ≡ f.payload = take_at f.payload b 25 long in
    let read : counter_of (get_or (f.payload ++ b) 25 0) ≡ f.counter = ap counter_of at ∙ counter_read f.counter small in
    (omega (arith, length-append f.payload b, long), λ t. record { payload = front t; counter = read t })
