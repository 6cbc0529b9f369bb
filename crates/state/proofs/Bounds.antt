-- The numbers of a sound state are within their bounds. Assumes nothing.
use Prim.Native.Nat.{ℕ, ◌≤◌, ◌<◌}
use mathlib.Core.Bool.{true}
use mathlib.Core.Path.{◌≡◌, ap}
use native.Mathlib.Omega.{arith}
use borrow.Author.Tests.{leb-true, ltb-true}
use Rattle.state.specs.declared.State.{State}
use Rattle.state.specs.declared.State.TheVariants.{Idle, RxAcquiringStream, RxStream, RxPacket, TxStream, TxStreamSentEndOfStream, TxPacket, TxEnding, TxEndingAtTime}
use Rattle.state.specs.declared.Reception.{Reception}
use Rattle.state.specs.declared.Reception.TheVariants.{Nothing, Acquiring, Stream, Packet}
use Rattle.state.specs.State.{reception_of, sound_state}

count_in : Reception → ℕ
count_in Nothing = 0
count_in (Acquiring mask) = 0
count_in (Stream expected) = 0
count_in (Packet count) = count

bounded : (s : State) → sound_state s ≡ true → count_in (reception_of s) ≤ 32
unfolding count_in
bounded Idle e = omega arith
bounded (RxAcquiringStream mask) e = omega arith
bounded (RxStream expected) e = omega arith
bounded (RxPacket count) e = leb-true count 32 e
bounded TxStream e = omega arith
bounded TxStreamSentEndOfStream e = omega arith
bounded TxPacket e = omega arith
bounded TxEnding e = omega arith
bounded (TxEndingAtTime end) e = omega arith

pub count_bound : (s : State) (count : ℕ) → sound_state s ≡ true → reception_of s ≡ Packet count → count ≤ 32
unfolding count_in
count_bound s count e p = let q : count_in (reception_of s) ≡ count = ap count_in p in omega (arith, bounded s e, q)

mask_in : Reception → ℕ
mask_in Nothing = 0
mask_in (Acquiring mask) = mask
mask_in (Stream expected) = 0
mask_in (Packet count) = 0

small : (s : State) → sound_state s ≡ true → mask_in (reception_of s) < 64
unfolding mask_in
small Idle e = omega arith
small (RxAcquiringStream mask) e = ltb-true mask 64 e
small (RxStream expected) e = omega arith
small (RxPacket count) e = omega arith
small TxStream e = omega arith
small TxStreamSentEndOfStream e = omega arith
small TxPacket e = omega arith
small TxEnding e = omega arith
small (TxEndingAtTime end) e = omega arith

pub mask_bound : (s : State) (mask : ℕ) → sound_state s ≡ true → reception_of s ≡ Acquiring mask → mask < 64
unfolding mask_in
mask_bound s mask e p = let q : mask_in (reception_of s) ≡ mask = ap mask_in p in omega (arith, small s e, q)
