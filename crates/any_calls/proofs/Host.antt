-- Calls of the host, over the world. Assumes nothing.
use Prim.Native.Nat.{ℕ}
use mathlib.Core.Bool.{true}
use mathlib.Core.Path.{◌≡◌, refl, sym, ap, ◌∙◌, subst}
use mathlib.Core.List.{List}
use native.Mathlib.Omega.{arith}
use lib.Dec.{eqb}
use lib.ListN.{length}
use borrow.Author.Tests.{eq-eqb, leb-true}
use Rattle.choice.specs.Pick.{pick, pick_all, and_fst, and_snd, and_both}
use Rattle.std.specs.Prelude.{Result, Err}
use Rattle.kiss_calls.specs.declared.WriteError.{WriteError}
use Rattle.kiss_calls.specs.declared.WriteError.TheVariants.{WrongStore, OutOfBounds}
use Rattle.kiss_reader.specs.Reader.{STORE as READER}
use Rattle.kiss_calls.specs.Calls.{sound_buffer, write_number}
use Rattle.outgoing.specs.Message.{sound_message, host_read, host_number}
use Rattle.outgoing.proofs.Kept as outgoing
use Rattle.packets.specs.Queue.{STORE as PACKETS}
use Rattle.streams.specs.Queue.{STORE as STREAMS}
use Rattle.radio.specs.Radio.{MESSAGE, sound_radio}
use Rattle.host_record.specs.Host.{sound_host}
use Rattle.tnc_drain.specs.Drain.{reader_box, host_box}
use Rattle.tnc.specs.Promises.{Link, written_at, Sound as LinkSound}
use Rattle.tnc.specs.Promises.{after_write as after_link}
use Rattle.tnc.proofs.Kept as host
use Rattle.tnc_core.specs.declared.Tnc.{Tnc}
use Rattle.tnc_core.specs.Tnc.{sound_tnc}
use Rattle.tnc_core.proofs.Bounds.{parts, joined}
use Rattle.tnc_core.proofs.Kept.{with_radio_is_sound}
use Rattle.tnc.specs.declared.TncWritten.{TncWritten}
use Rattle.tnc_read.specs.declared.TncRead.{TncRead}
use Rattle.tnc.specs.Calls.{put_back, tnc_written}
use Rattle.tnc_read.specs.Calls.{with_message, has_read, tnc_read}
use Rattle.tnc.proofs.Cases.{is_written}
use Rattle.any_calls.specs.Calls.{World, writes, reads, after_write, with_tnc}
use Rattle.any_calls.specs.Promises.{Sound}

-- ---- bytes from the host

-- the part of the world that they can change
abbrev pub link : World → Link
link w = record { reader = reader_box w.tnc.buffer w.reader; host = host_box (record { sending = w.tnc.sending; channel = w.channel }) w.packets w.streams }

-- the world with another such part
abbrev pub with_link : World → Link → World
with_link w l =
    record {
      tnc = record { buffer = l.reader.buffer; sending = l.host.host.sending; radio = w.tnc.radio; ptt = w.tnc.ptt };
      channel = l.host.host.channel;
      reader = l.reader.store;
      packets = l.host.packets;
      streams = l.host.streams;
      rx = w.rx;
      message = w.message;
    }

-- what holds of every refusal, and of what the link comes to in a sound TNC, holds of a write
each_write : (w : World) (buf : List ℕ) (Q : TncWritten × List ℕ × List ℕ × List ℕ → Type 0)
    → ((error : WriteError) → Q (record { answer = Err error; tnc = w.tnc; channel = w.channel }, w.reader, w.packets, w.streams))
    → (let r = written_at (link w) buf in Q (put_back w.tnc r.0, r.1, r.2, r.3)) → Q (writes w buf)
unfolding tnc_written
each_write w buf Q f d =
    pick_all Q (eqb (length w.reader) READER) _ _
    (λ r. pick_all Q (eqb (length w.packets) PACKETS) _ _
    (λ p. pick_all Q (eqb (length w.streams) STREAMS) _ _ (λ q. pick_all Q (sound_tnc w.tnc) _ _ (λ s. d) (λ s. f OutOfBounds)) (λ q. f WrongStore)) (λ p. f WrongStore))
    (λ r. f WrongStore)

pub write_refused : (w : World) (buf : List ℕ) → (write_number (writes w buf).0.answer ≡ 0 → ⊥) → after_write w (writes w buf) ≡ w
write_refused w buf =
    each_write w buf (λ r. (write_number r.0.answer ≡ 0 → ⊥) → after_write w r ≡ w) (λ a n. refl)
    (λ n. ap (with_link w) (host.refused_keeps_all (link w) buf n).1)

module _ (w : World) (s : Sound w) where
  pub link_sound : LinkSound (link w)
  unfolding sound_host
  link_sound =
      record {
        its_reader = record { its_store = s.its_reader; its_state = s.its_buffer };
        its_host = record { its_packets = s.its_packets; its_streams = s.its_streams; its_host = and_both (parts w.tnc s.its_tnc).its_sending s.its_channel };
      }

  -- the world with another sound part is sound
  with_link_lem : (l : Link) → LinkSound l → Sound (with_link w l)
  unfolding sound_host sound_buffer
  with_link_lem l k =
      let p = parts w.tnc s.its_tnc in
      record {
        its_reader = k.its_reader.its_store;
        its_packets = k.its_host.its_packets;
        its_streams = k.its_host.its_streams;
        its_rx = s.its_rx;
        its_message = s.its_message;
        its_tnc =
            joined (with_link w l).tnc
            (record {
              its_filled = leb-true l.reader.buffer.filled READER (and_fst _ _ k.its_reader.its_state);
              its_sending = and_fst _ _ k.its_host.its_host;
              its_radio = p.its_radio;
              its_ptt = p.its_ptt;
            });
        its_buffer = k.its_reader.its_state;
        its_channel = and_snd _ _ k.its_host.its_host;
      }

  pub comes_to : (buf : List ℕ) → (let r = written_at (link w) buf in (put_back w.tnc r.0, r.1, r.2, r.3)) ≡ writes w buf
  comes_to buf = is_written w.tnc w.channel buf w.reader w.packets w.streams s.its_reader s.its_packets s.its_streams s.its_tnc

  pub write_sound : (buf : List ℕ) → Sound (after_write w (writes w buf))
  write_sound buf = subst (λ r. Sound (after_write w r)) (comes_to buf) (with_link_lem (after_link (link w) buf) (host.sound_stays_sound (link w) buf link_sound))

  -- what the reader of a sound world answers: 0 or 5
  pub write_fine : (buf : List ℕ) → (write_number (writes w buf).0.answer ≡ 7 → ⊥) × (write_number (writes w buf).0.answer ≡ 8 → ⊥)
  write_fine buf =
      subst (λ (a : Result ℕ WriteError). (write_number a ≡ 7 → ⊥) × (write_number a ≡ 8 → ⊥))
      (sym (host.answer_is (link w) buf link_sound) ∙ ap (λ (r : TncWritten × List ℕ × List ℕ × List ℕ). r.0.answer) (comes_to buf))
      (host.reader_answers (λ (a : Result ℕ WriteError). (write_number a ≡ 7 → ⊥) × (write_number a ≡ 8 → ⊥)) (reader_box w.tnc.buffer w.reader) buf link_sound.its_reader
      (λ n. (λ e. absurd (omega (arith, e)), λ e. absurd (omega (arith, e)))) (λ e. absurd (omega (arith, e)), λ e. absurd (omega (arith, e))))

-- ---- bytes to the host

pub each_read : (w : World) (target : List ℕ) (Q : TncRead × List ℕ → Type 0)
    → ((r : TncRead) → r.tnc ≡ w.tnc → Q (r, target))
    → (sound_tnc w.tnc ≡ true → (let r = host_read w.tnc.radio.outgoing w.message target in Q (has_read w.tnc r.0, r.1))) → Q (reads w target)
unfolding tnc_read
each_read w target Q f d =
    pick_all Q (eqb (length w.message) MESSAGE) _ _ (λ m. pick_all Q (sound_tnc w.tnc) _ _ d (λ s. f _ refl)) (λ m. f _ refl)

-- the record with the message that it has
same_message : (t : Tnc) → sound_tnc t ≡ true → with_message t t.radio.outgoing ≡ t
same_message t s = λ i. record { buffer = t.buffer; sending = t.sending; radio = t.radio; ptt = sym (parts t s).its_ptt i }

pub read_refused : (w : World) (target : List ℕ) → (host_number (reads w target).0.answer ≡ 0 → ⊥) → with_tnc w (reads w target).0.tnc ≡ w
read_refused w target =
    each_read w target (λ r. (host_number r.0.answer ≡ 0 → ⊥) → with_tnc w r.0.tnc ≡ w) (λ r e n. ap (with_tnc w) e)
    (λ s n. ap (with_tnc w) (ap (with_message w.tnc) (outgoing.refused_keeps_all w.tnc.radio.outgoing w.message target n).0 ∙ same_message w.tnc s))

module _ (w : World) (s : Sound w) (target : List ℕ) where
  message_sound : sound_message w.tnc.radio.outgoing ≡ true
  unfolding sound_radio
  message_sound = and_snd _ _ (parts w.tnc s.its_tnc).its_radio

  with_tnc_lem : (t : Tnc) → t.buffer ≡ w.tnc.buffer → sound_tnc t ≡ true → Sound (with_tnc w t)
  with_tnc_lem t e k =
      record {
        its_reader = s.its_reader;
        its_packets = s.its_packets;
        its_streams = s.its_streams;
        its_rx = s.its_rx;
        its_message = s.its_message;
        its_tnc = k;
        its_buffer = ap (λ b. sound_buffer b w.reader) e ∙ s.its_buffer;
        its_channel = s.its_channel;
      }

  pub read_sound : Sound (with_tnc w (reads w target).0.tnc)
  unfolding sound_radio
  read_sound =
      each_read w target (λ r. Sound (with_tnc w r.0.tnc)) (λ r e. with_tnc_lem r.tnc (ap (λ (t : Tnc). t.buffer) e) (ap sound_tnc e ∙ s.its_tnc))
      (λ k. with_tnc_lem (has_read w.tnc (host_read w.tnc.radio.outgoing w.message target).0).tnc refl
      (with_radio_is_sound w.tnc _ s.its_tnc
      (and_both (and_fst _ _ (parts w.tnc s.its_tnc).its_radio) (outgoing.sound_stays_sound w.tnc.radio.outgoing w.message target message_sound))))

  pub read_fine : host_number (reads w target).0.answer ≡ 0
  unfolding tnc_read host_read pick
  read_fine = rw (eq-eqb (length w.message) MESSAGE s.its_message, s.its_tnc, message_sound)
