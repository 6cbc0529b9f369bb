-- A transmission, and its step from frames to the end, is begun by reads for the modulator alone. Assumes nothing.
use Prim.Native.Nat.{ℕ, ◌+◌}
use mathlib.Core.Bool.{Bool, true, false, false≢true}
use mathlib.Core.Path.{◌≡◌, sym, ap, ◌∙◌, subst}
use mathlib.Core.List.{List}
use lib.Dec.{leb}
use Rattle.choice.specs.Pick.{pick_all}
use Rattle.state.specs.declared.State.{State}
use Rattle.state.specs.declared.State.TheVariants.{Idle, RxAcquiringStream, RxStream, RxPacket, TxStream, TxStreamSentEndOfStream, TxPacket, TxEnding, TxEndingAtTime}
use Rattle.state.specs.State.{transmits, time_reached, ending_at}
use Rattle.radio.specs.declared.Heard.{Heard}
use Rattle.tnc_core.specs.declared.Tnc.{Tnc}
use Rattle.tnc_clock.specs.Clock.{now_set, end_time_set}
use Rattle.tnc.specs.declared.TncWritten.{TncWritten}
use Rattle.any_calls.specs.Calls.{World, Call, write_kiss, read_kiss, handle_lsf, handle_packet, handle_stream, set_data_carrier_detect, set_now, set_tx_end_time, ptt, read_tx_frame, writes, reads, hears, lsf_in, packet_in, stream_in, after}
use Rattle.any_calls.specs.Promises.{Sound}
use Rattle.any_calls.proofs.Host.{comes_to, each_read}
use Rattle.any_calls.proofs.Air.{box, box_sound, Fine, each_heard, lsf_fine, packet_fine, stream_fine}
use Rattle.any_calls.proofs.Kept.{now_leaves, end_leaves}

-- the call that reads for the modulator
abbrev pub Reads : Call → Bool
Reads (write_kiss buf) = false
Reads (read_kiss target) = false
Reads (handle_lsf lsf) = false
Reads (handle_packet f) = false
Reads (handle_stream f) = false
Reads (set_data_carrier_detect dcd) = false
Reads (set_now samples) = false
Reads (set_tx_end_time samples) = false
Reads ptt = false
Reads read_tx_frame = true

-- a transmitting state k that is not the wait for an end time
module _ (k : State) (on : transmits k ≡ true) (not-ending : (end : ℕ) → TxEndingAtTime end ≡ k → ⊥) where
  abbrev In : Tnc → Type 0
  In t = t.radio.state ≡ k

  time_was : (s : State) (n : ℕ) → time_reached s n ≡ k → s ≡ k
  time_was Idle n e = e
  time_was (RxAcquiringStream mask) n e = e
  time_was (RxStream expected) n e = e
  time_was (RxPacket count) n e = e
  time_was TxStream n e = e
  time_was TxStreamSentEndOfStream n e = e
  time_was TxPacket n e = e
  time_was TxEnding n e = e
  time_was (TxEndingAtTime end) n e =
      pick_all (λ (s : State). s ≡ k → TxEndingAtTime end ≡ k) (leb end n) Idle (TxEndingAtTime end) (λ t f. absurd (false≢true (ap transmits f ∙ on))) (λ t f. f) e

  end_was : (s : State) (n : ℕ) → ending_at s n ≡ k → s ≡ k
  end_was Idle n e = e
  end_was (RxAcquiringStream mask) n e = e
  end_was (RxStream expected) n e = e
  end_was (RxPacket count) n e = e
  end_was TxStream n e = e
  end_was TxStreamSentEndOfStream n e = e
  end_was TxPacket n e = e
  end_was TxEnding n e = absurd (not-ending n e)
  end_was (TxEndingAtTime end) n e = e

  module _ (w : World) where
    heard_was : (h : Heard × List ℕ × List ℕ) → Fine w.tnc.radio h.0 → In (hears w h).0.tnc → In w.tnc
    heard_was h f = each_heard w h (λ r. In r.0.tnc → In w.tnc) (λ a e. e) (λ s. f.was k on)

    write_was : Sound w → (buf : List ℕ) → In (writes w buf).0.tnc → In w.tnc
    write_was s buf = subst (λ (r : TncWritten × List ℕ × List ℕ × List ℕ). In r.0.tnc → In w.tnc) (comes_to w s buf) (λ e. e)

    read_was : (target : List ℕ) → In (reads w target).0.tnc → In w.tnc
    read_was target = each_read w target (λ r. In r.0.tnc → In w.tnc) (λ r e f. sym (ap (λ (t : Tnc). t.radio.state) e) ∙ f) (λ s e. e)

    now_was : (n : ℕ) → In (now_set w.tnc w.channel n).tnc → In w.tnc
    now_was n = now_leaves (λ t. In t → In w.tnc) w.tnc w.channel n (λ e. e) (time_was w.tnc.radio.state n)

    endtime_was : (n : ℕ) → In (end_time_set w.tnc w.channel n).tnc → In w.tnc
    endtime_was n = end_leaves (λ t. In t → In w.tnc) w.tnc w.channel n (λ e. e) (end_was w.tnc.radio.state (w.channel.clock + n))

  pub begun_by_reads : (w : World) (c : Call) → Sound w → Reads c ≡ false → (after w c).tnc.radio.state ≡ k → w.tnc.radio.state ≡ k
  unfolding after
  begun_by_reads w (write_kiss buf) s r = write_was w s buf
  begun_by_reads w (read_kiss target) s r = read_was w target
  begun_by_reads w (handle_lsf lsf) s r = heard_was w (lsf_in w lsf) (lsf_fine (box w) lsf (box_sound w s (lsf_in w lsf)))
  begun_by_reads w (handle_packet f) s r = heard_was w (packet_in w f) (packet_fine (box w) f (box_sound w s (packet_in w f)))
  begun_by_reads w (handle_stream f) s r = heard_was w (stream_in w f) (stream_fine (box w) f (box_sound w s (stream_in w f)))
  begun_by_reads w (set_data_carrier_detect dcd) s r = λ e. e
  begun_by_reads w (set_now samples) s r = now_was w samples
  begun_by_reads w (set_tx_end_time samples) s r = endtime_was w samples
  begun_by_reads w ptt s r = λ e. e
  begun_by_reads w read_tx_frame s r = absurd (false≢true (sym r))
