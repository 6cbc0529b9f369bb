-- What `kiss_written` comes to past its tests, by what the reader answered. Assumes nothing.
use Prim.Native.Nat.{ℕ}
use mathlib.Core.Bool.{true}
use mathlib.Core.Path.{◌≡◌, sym, ap, ◌∙◌}
use mathlib.Core.List.{List}
use lib.ListN.{length}
use borrow.Author.Tests.{eq-eqb}
use Rattle.choice.specs.Pick.{pick}
use Rattle.std.specs.Prelude.{Result}
use Rattle.kiss_calls.specs.declared.KissBuffer.{KissBuffer}
use Rattle.kiss_calls.specs.declared.WriteError.{WriteError}
use Rattle.kiss_calls.specs.declared.Written.{Written}
use Rattle.kiss_reader.specs.Reader.{STORE as READER}
use Rattle.kiss_calls.specs.Calls.{written}
use Rattle.packets.specs.Queue.{STORE as PACKETS}
use Rattle.streams.specs.Queue.{STORE as STREAMS}
use Rattle.host_record.specs.declared.Host.{Host}
use Rattle.host_record.specs.Host.{sound_host}
use Rattle.tnc_drain.specs.Drain.{reader_box, host_box}
use Rattle.tnc.specs.Bytes.{onward, offered, kiss_written}

module _ (b : KissBuffer) (h : Host) (buf reader packets streams : List ℕ) (r : length reader ≡ READER) (p : length packets ≡ PACKETS) (q : length streams ≡ STREAMS) where
  -- once the reader has answered
  pub went : sound_host h ≡ true → (a : Result ℕ WriteError) (w : Written) (last : List ℕ) → (w, last) ≡ written b buf reader → w.answer ≡ a
      → onward a (reader_box w.buffer last) (host_box h packets streams) ≡ kiss_written b h buf reader packets streams
  unfolding kiss_written pick
  went s a w last e t =
      rw (eq-eqb (length reader) READER r, eq-eqb (length packets) PACKETS p, eq-eqb (length streams) STREAMS q, s)
      (ap (λ (k : Result ℕ WriteError). onward k (reader_box w.buffer last) (host_box h packets streams)) (sym t)
      ∙ ap (λ (k : Written × List ℕ). offered k (host_box h packets streams)) e)
