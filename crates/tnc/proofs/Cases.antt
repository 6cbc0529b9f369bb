-- The cases of the TNC's calls: each from the tests on the way to it. Assumes nothing.
use Prim.Native.Nat.{ℕ}
use mathlib.Core.Bool.{true, false}
use mathlib.Core.Logic.{◌≢◌}
use mathlib.Core.Path.{◌≡◌, sym, ap, ◌∙◌}
use Rattle.std.specs.Prelude.{Result, Err}
use mathlib.Core.List.{List}
use native.Mathlib.Omega.{arith}
use lib.ListN.{length}
use borrow.Author.Tests.{eq-eqb}
use Rattle.choice.specs.Pick.{pick, and, and_both}
use Rattle.channel.specs.declared.Channel.{Channel}
use Rattle.channel.specs.Access.{sound_channel}
use Rattle.kiss_calls.specs.declared.WriteError.{WriteError}
use Rattle.kiss_calls.specs.declared.WriteError.TheVariants.{Full, WrongStore, OutOfBounds, WrongStore as NoRoom, OutOfBounds as NoState}
use Rattle.kiss_calls.specs.declared.Written.{Written}
use Rattle.kiss_calls.specs.Calls.{written, write_number}
use Rattle.kiss_calls.proofs.Kept.{refused_keeps_all}
use Rattle.kiss_reader.specs.Reader.{STORE as READER}
use Rattle.packets.specs.Queue.{STORE as PACKETS}
use Rattle.streams.specs.Queue.{STORE as STREAMS}
use Rattle.host_record.specs.declared.Host.{Host}
use Rattle.host_record.specs.Host.{sound_host}
use Rattle.host_frame.specs.Promises.{Sound as HostSound}
use Rattle.link_ready.specs.Ready.{link_fits}
use Rattle.link_ready.proofs.Stores.{unfit}
use Rattle.tnc.specs.declared.KissWritten.{KissWritten}
use Rattle.tnc.specs.Bytes.{refused, onward, kiss_written}
use Rattle.tnc_core.specs.declared.Tnc.{Tnc}
use Rattle.tnc_core.specs.Tnc.{sound_tnc}
use Rattle.tnc_core.proofs.Bounds.{parts}
use Rattle.tnc_drain.specs.Drain.{reader_box, host_box}
use Rattle.tnc.specs.declared.TncWritten.{TncWritten}
use Rattle.tnc.specs.Calls.{not_written, put_back, tnc_written}
use Rattle.tnc.proofs.Links.{went}

abbrev host_of : Tnc → Channel → Host
host_of t c = record { sending = t.sending; channel = c }

numbered : (error : WriteError) → write_number (Err error) ≢ 0
numbered Full n = absurd (omega (arith, n))
numbered WrongStore n = absurd (omega (arith, n))
numbered OutOfBounds n = absurd (omega (arith, n))

-- the TNC with what the host's bytes changed, and the stores beside it
abbrev pub back : Tnc → KissWritten × List ℕ × List ℕ × List ℕ → TncWritten × List ℕ × List ℕ × List ℕ
back t o = (put_back t o.0, o.1, o.2, o.3)

module _ (t : Tnc) (c : Channel) (buf reader packets streams : List ℕ) where
  pub stores_wrong : {x : TncWritten} → x ≡ not_written NoRoom t c → link_fits (length reader) (length packets) (length streams) ≡ false
      → (x, reader, packets, streams) ≡ tnc_written t c buf reader packets streams
  unfolding tnc_written
  stores_wrong e n = unfit (length reader) (length packets) (length streams) _ n (λ i. (e i, reader, packets, streams))

  module _ (r : length reader ≡ READER) (p : length packets ≡ PACKETS) (q : length streams ≡ STREAMS) where
    pub unsound : {x : TncWritten} → x ≡ not_written NoState t c → sound_tnc t ≡ false → (x, reader, packets, streams) ≡ tnc_written t c buf reader packets streams
    unfolding tnc_written pick
    unsound e s = rw (eq-eqb (length reader) READER r, eq-eqb (length packets) PACKETS p, eq-eqb (length streams) STREAMS q, s) (λ i. (e i, reader, packets, streams))

    abbrev host : KissWritten × List ℕ × List ℕ × List ℕ
    host = kiss_written t.buffer (record { sending = t.sending; channel = c }) buf reader packets streams

    pub is_written : sound_tnc t ≡ true → back t host ≡ tnc_written t c buf reader packets streams
    unfolding tnc_written pick
    is_written s = rw (eq-eqb (length reader) READER r, eq-eqb (length packets) PACKETS p, eq-eqb (length streams) STREAMS q, s)

    -- the channel is no part of the record that is tested first
    pub unsound_channel : {x : TncWritten} → x ≡ not_written NoState t c → sound_tnc t ≡ true → sound_channel c ≡ false
        → (x, reader, packets, streams) ≡ tnc_written t c buf reader packets streams
    unfolding tnc_written kiss_written sound_host pick and
    unsound_channel e s n =
        rw (eq-eqb (length reader) READER r, eq-eqb (length packets) PACKETS p, eq-eqb (length streams) STREAMS q, s, (parts t s).its_sending, n)
        (λ i. (e i, reader, packets, streams))

    module _ (s : sound_tnc t ≡ true) (n : sound_channel c ≡ true) where
      pub host_sound : HostSound (host_box (host_of t c) packets streams)
      unfolding sound_host
      host_sound = record { its_packets = p; its_streams = q; its_host = and_both (parts t s).its_sending n }

      -- once the reader has answered
      pub goes : (a : Result ℕ WriteError) (w : Written) (last : List ℕ) → (w, last) ≡ written t.buffer buf reader → w.answer ≡ a
          → back t (onward a (reader_box w.buffer last) (host_box (host_of t c) packets streams))
          ≡ tnc_written t c buf reader packets streams
      goes a w last e f =
          ap (back t)
          (went t.buffer (host_of t c) buf reader packets streams r p q host_sound.its_host a w last e f)
          ∙ is_written s

      -- a reader that took nothing is as it was
      pub not_taken : {x : TncWritten} (w : Written) (last : List ℕ) (error : WriteError) → (w, last) ≡ written t.buffer buf reader → w.answer ≡ Err error
          → x ≡ not_written error t c → (x, last, packets, streams) ≡ tnc_written t c buf reader packets streams
      not_taken w last error e f g =
          let x = reader_box t.buffer reader in
          let same : reader_box w.buffer last ≡ x =
          ap (λ (k : Written × List ℕ). reader_box k.0.buffer k.1) e
          ∙ ((refused_keeps_all x).0 buf (λ n. numbered error (ap write_number (sym f ∙ ap (λ (k : Written × List ℕ). k.0.answer) e) ∙ n))).1 in
          (λ i. (g i, last, packets, streams))
          ∙ (λ i. (put_back t (refused error (sym same i).buffer (host_of t c)), last, packets, streams))
          ∙ goes (Err error) w last e f
