-- The cases of a frame from the host: each from the tests on the way to it. Assumes nothing.
use Prim.Native.Nat.{ℕ, ◌≤◌, ◌<◌}
use mathlib.Core.Bool.{true, false}
use mathlib.Core.Path.{◌≡◌, sym, ap, ◌∙◌}
use mathlib.Core.List.{List}
use lib.ListN.{length}
use borrow.Author.Tests.{eq-eqb, lt-ltb, le-ltb}
use Rattle.choice.specs.Pick.{pick}
use Rattle.std.specs.Prelude.{Result, ℕ, Err, Ok}
use Rattle.kiss_layout.specs.declared.KissError.{KissError}
use Rattle.kiss_layout.specs.declared.KissCommand.{KissCommand}
use Rattle.room.specs.declared.LentError.TheVariants.{WrongStore, OutOfBounds}
use Rattle.kiss_layout.specs.Read.{port_read, command_read}
use Rattle.packets.specs.Queue.{STORE as PACKETS}
use Rattle.streams.specs.Queue.{STORE as STREAMS}
use Rattle.host_record.specs.declared.Host.{Host}
use Rattle.host_record.specs.Host.{sound_host, stores_fit}
use Rattle.host_record.proofs.Stores.{packets_fit, streams_fit, unfit}
use Rattle.host_frame.specs.declared.FrameTaken.{FrameTaken}
use Rattle.host_frame.specs.Frame.{by_command, obeyed_on, by_port, obeyed, answered, frame_taken}

module _ (h : Host) (frame packets streams : List ℕ) where
  -- what the port that was found makes of a frame
  pub port_as : {k : (Result ℕ KissError)} (v : (Result ℕ KissError)) → k ≡ port_read frame → k ≡ v → by_port v h frame packets streams ≡ obeyed h frame packets streams
  unfolding obeyed
  port_as v e t = ap (λ (p : (Result ℕ KissError)). by_port p h frame packets streams) (sym t ∙ e)

  module _ (port : ℕ) where
    pub other_port : 2 < port → (h, packets, streams) ≡ obeyed_on port h frame packets streams
    unfolding obeyed_on pick
    other_port n = rw (lt-ltb 2 port n)

    pub command_as : {k : (Result KissCommand KissError)} (v : (Result KissCommand KissError)) → port ≤ 2 → k ≡ command_read frame → k ≡ v → by_command v port h frame packets streams ≡ obeyed_on port h frame packets streams
    unfolding obeyed_on pick
    command_as v n e t = rw (le-ltb 2 port n) (ap (λ (p : (Result KissCommand KissError)). by_command p port h frame packets streams) (sym t ∙ e))

  module _ {x : FrameTaken} where
    pub stores_wrong : x ≡ (answered (Err WrongStore) (h, packets, streams)).0 → stores_fit (length packets) (length streams) ≡ false → (x, packets, streams) ≡ frame_taken h frame packets streams
    unfolding frame_taken
    stores_wrong e n = unfit (length packets) (length streams) _ n (λ t. (e t, packets, streams))

    pub unsound : x ≡ (answered (Err OutOfBounds) (h, packets, streams)).0 → stores_fit (length packets) (length streams) ≡ true → sound_host h ≡ false → (x, packets, streams) ≡ frame_taken h frame packets streams
    unfolding frame_taken pick
    unsound e f s =
        rw (eq-eqb (length packets) PACKETS (packets_fit (length packets) (length streams) f), eq-eqb (length streams) STREAMS (streams_fit (length packets) (length streams) f), s) (λ t. (e t, packets, streams))

  pub taken : length packets ≡ PACKETS → length streams ≡ STREAMS → sound_host h ≡ true → answered (Ok tt) (obeyed h frame packets streams) ≡ frame_taken h frame packets streams
  unfolding frame_taken pick
  taken p q s = rw (eq-eqb (length packets) PACKETS p, eq-eqb (length streams) STREAMS q, s)
