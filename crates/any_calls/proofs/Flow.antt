-- What goes into a queue and comes out of it, over any calls: for any list that is read off the queues and their stores (what is left), if a push adds behind it and a read
-- takes from its front, then over any calls what was left and what came in is what was read and what is left. Assumes nothing.
use Prim.Native.Nat.{ℕ}
use mathlib.Core.Bool.{Bool, true, false}
use mathlib.Core.Path.{◌≡◌, refl, sym, ap, ◌∙◌, subst}
use mathlib.Core.List.{List, [], ◌∷◌, ◌++◌, append-nil, append_assoc}
use native.Mathlib.Omega.{arith}
use lib.Dec.{ltb, eqb}
use Rattle.choice.specs.Pick.{pick}
use Rattle.kiss_layout.specs.declared.KissCommand.TheVariants.{DataFrame, TxDelay, P, FullDuplex}
use Rattle.std.specs.Prelude.{Option, ℕ, None, Some, Result, Ok, Err}
use Rattle.kiss_layout.specs.declared.KissCommand.{KissCommand}
use Rattle.kiss_layout.specs.declared.KissError.{KissError}
use Rattle.kiss_layout.specs.Read.{port_read, command_read}
use Rattle.kiss_calls.specs.declared.WriteError.{WriteError}
use Rattle.kiss_calls.specs.declared.WriteError.TheVariants.{Full, WrongStore as NoRoom, OutOfBounds as NoState}
use Rattle.kiss_calls.specs.Calls.{write_number, written}
use Rattle.kiss_calls.specs.Promises.{after_written}
use Rattle.packets.specs.declared.PacketQueue.{PacketQueue}
use Rattle.packets.specs.Queue.{pushed_basic, pushed_full}
use Rattle.streams.specs.declared.StreamQueue.{StreamQueue}
use Rattle.streams.specs.Queue.{pushed}
use Rattle.state.specs.declared.Transmission.{Transmission}
use Rattle.state.specs.State.{transmission_of}
use Rattle.radio.specs.declared.Heard.{Heard}
use Rattle.host_record.specs.declared.Host.{Host}
use Rattle.host_frame.specs.declared.FrameTaken.{FrameTaken}
use Rattle.host_frame.specs.Setting.{setting_in, delay_set, duplex_of}
use Rattle.host_frame.specs.Data.{data_taken}
use Rattle.host_frame.specs.Frame.{by_command, obeyed_on, by_port, obeyed}
use Rattle.host_frame.specs.Promises.{Box as HostBox, left_by, after as after_frame, Sound as HostSound}
use Rattle.host_frame.proofs.Cases.{taken}
use Rattle.host_frame.proofs.Kept as host
use Rattle.tnc_drain.specs.Drain.{all_taken, frames_held}
use Rattle.tnc.proofs.Kept as hosts
use Rattle.tnc_core.specs.declared.Tnc.{Tnc}
use Rattle.tnc_clock.specs.Clock.{now_set, end_time_set}
use Rattle.tnc.specs.declared.TncWritten.{TncWritten}
use Rattle.tnc_transmit.specs.declared.TncTx.{TncTx}
use Rattle.any_calls.specs.Calls.{World, Call, write_kiss, read_kiss, handle_lsf, handle_packet, handle_stream, set_data_carrier_detect, set_now, set_tx_end_time, ptt, read_tx_frame, writes, reads, hears, lsf_in, packet_in, stream_in, gives, after_write, with_tnc, after_heard, with_both, after, run}
use Rattle.any_calls.specs.Promises.{AllTyped, Sound}
use Rattle.any_calls.specs.Queues.{of_data, brought_by, host_of, frames_after, brings, read_in, over_all}
use Rattle.any_calls.proofs.Host.{link, link_sound, comes_to, write_refused, each_read}
use Rattle.any_calls.proofs.Air.{each_heard}
use Rattle.any_calls.proofs.Kept.{now_leaves, end_leaves, sound_stays_sound}

module _ {A : Type 0} (L : PacketQueue → StreamQueue → List ℕ → List ℕ → List A) (E : PacketQueue → StreamQueue → Type 0) where
  -- what is left in a host's box and in a world, and what is known of its queues
  abbrev left_in : HostBox → List A
  left_in x = L x.host.sending.packets x.host.sending.streams x.packets x.streams

  abbrev Known : HostBox → Type 0
  Known x = E x.host.sending.packets x.host.sending.streams

  abbrev pub left_at : World → List A
  left_at w = L w.tnc.sending.packets w.tnc.sending.streams w.packets w.streams

  abbrev pub KnownAt : World → Type 0
  KnownAt w = E w.tnc.sending.packets w.tnc.sending.streams

  -- ---- calls that leave the queues alone

  abbrev pub Same : World → World → Type 0
  Same w v = (left_at v ≡ left_at w) × (KnownAt w → KnownAt v)

  abbrev pub SameQueues : World → Tnc → Type 0
  SameQueues w t = Same w (with_tnc w t)

  pub heard-same : (w : World) (h : Heard × List ℕ × List ℕ) → Same w (after_heard w (hears w h))
  heard-same w h = each_heard w h (λ r. Same w (after_heard w r)) (λ a. (refl, λ k. k)) (λ s. (refl, λ k. k))

  pub read_same : (w : World) (target : List ℕ) → Same w (with_tnc w (reads w target).0.tnc)
  read_same w target =
      each_read w target (λ r. SameQueues w r.0.tnc) (λ r e. subst (SameQueues w) (sym e) (refl, λ k. k)) (λ s. (refl, λ k. k))

  pub now_same : (w : World) (n : ℕ) → SameQueues w (now_set w.tnc w.channel n).tnc
  now_same w n = now_leaves (SameQueues w) w.tnc w.channel n (refl, λ k. k) (refl, λ k. k)

  pub end_same : (w : World) (n : ℕ) → SameQueues w (end_time_set w.tnc w.channel n).tnc
  end_same w n = end_leaves (SameQueues w) w.tnc w.channel n (refl, λ k. k) (refl, λ k. k)

  -- a change that adds some behind what was left
  abbrev pub Adds : HostBox → HostBox → List A → Type 0
  Adds x y new = (left_in y ≡ left_in x ++ new) × Known y

  abbrev boxed : Host × List ℕ × List ℕ → HostBox
  boxed w = record { host = w.0; packets = w.1; streams = w.2 }

  module _ (basic full stream : HostBox → List ℕ → List A)
      (by-basic : (x : HostBox) (f : List ℕ) → HostSound x → Known x → (let r = pushed_basic x.host.sending.packets f x.packets in (L r.0.queue x.host.sending.streams r.1 x.streams ≡ left_in x ++ basic x f) × E r.0.queue x.host.sending.streams))
      (by-full : (x : HostBox) (f : List ℕ) → HostSound x → Known x → (let r = pushed_full x.host.sending.packets f x.packets in (L r.0.queue x.host.sending.streams r.1 x.streams ≡ left_in x ++ full x f) × E r.0.queue x.host.sending.streams))
      (by-stream : (x : HostBox) (f : List ℕ) → HostSound x → Known x → (let r = pushed x.host.sending.streams f x.streams in (L x.host.sending.packets r.0.queue x.packets r.1 ≡ left_in x ++ stream x f) × E x.host.sending.packets r.0.queue))
    where
      abbrev g : HostBox → List ℕ → List A
      g x f = of_data (basic x f) (full x f) (stream x f) (port_read f) (command_read f)

      -- ---- one frame

      module _ (x : HostBox) (f : List ℕ) (s : HostSound x) (k : Known x) where
        same : Adds x x []
        same = (sym (append-nil (left_in x)), k)

        delays : (v : (Option ℕ)) → Adds x (boxed (delay_set v x.host, x.packets, x.streams)) []
        delays None = same
        delays (Some byte) = same

        duplexes : (v : (Option ℕ)) → Adds x (boxed (duplex_of v x.host, x.packets, x.streams)) []
        duplexes None = same
        duplexes (Some byte) = same

        by_data : (other zero one : Bool) (port : ℕ) → eqb port 0 ≡ zero → eqb port 1 ≡ one
            → Adds x (boxed (pick other (x.host, x.packets, x.streams) (data_taken port x.host f x.packets x.streams))) (pick other [] (pick zero (basic x f) (pick one (full x f) (stream x f))))
        unfolding pick data_taken
        by_data true zero one port a b = same
        by_data false true one port a b = rw a (by-basic x f s k)
        by_data false false true port a b = rw (a, b) (by-full x f s k)
        by_data false false false port a b = rw (a, b) (by-stream x f s k)

        -- a frame that is no data, on a port that counts or not
        still : (t : Bool) (y : HostBox) (w : Host × List ℕ × List ℕ) → boxed w ≡ y → Adds x y [] → Adds x (boxed (pick t (x.host, x.packets, x.streams) w)) []
        unfolding pick
        still true y w e a = same
        still false y w e a = subst (λ (z : HostBox). Adds x z []) (sym e) a

        by_command_lem : (c : (Result KissCommand KissError)) (port : ℕ)
            → Adds x (boxed (pick (ltb 2 port) (x.host, x.packets, x.streams) (by_command c port x.host f x.packets x.streams))) (of_data (basic x f) (full x f) (stream x f) (Ok port) c)
        by_command_lem (Err e) port = still (ltb 2 port) x _ refl same
        by_command_lem (Ok DataFrame) port = by_data (ltb 2 port) (eqb port 0) (eqb port 1) port refl refl
        by_command_lem (Ok TxDelay) port = still (ltb 2 port) _ _ refl (delays (setting_in f))
        by_command_lem (Ok P) port = still (ltb 2 port) x _ refl same
        by_command_lem (Ok FullDuplex) port = still (ltb 2 port) _ _ refl (duplexes (setting_in f))

        by_port_lem : (p : (Result ℕ KissError)) → Adds x (boxed (by_port p x.host f x.packets x.streams)) (of_data (basic x f) (full x f) (stream x f) p (command_read f))
        unfolding obeyed_on
        by_port_lem (Err e) = same
        by_port_lem (Ok port) = by_command_lem (command_read f) port

        one_frame : Adds x (after_frame x f) (g x f)
        unfolding obeyed
        one_frame =
            subst (λ (r : FrameTaken × List ℕ × List ℕ). Adds x (left_by r) (g x f))
            (taken x.host f x.packets x.streams s.its_packets s.its_streams s.its_host) (by_port_lem (port_read f))

      -- ---- the frames of a write

      all_frames : (fs : List (List ℕ)) (x : HostBox) → HostSound x → Known x → Adds x (all_taken fs x) (brought_by g fs x)
      unfolding all_taken brought_by
      all_frames [] x s k = (sym (append-nil (left_in x)), k)
      all_frames (f ∷ fs) x s k =
          let a = one_frame x f s k in let r = all_frames fs (after_frame x f) (host.sound_stays_sound x f s).1 a.1 in
          (r.0 ∙ ap (λ (l : List A). l ++ brought_by g fs (after_frame x f)) a.0 ∙ append_assoc (left_in x) (g x f) (brought_by g fs (after_frame x f)), r.1)

      -- the same of worlds
      abbrev Grows : World → World → List A → Type 0
      Grows w v new = (left_at v ≡ left_at w ++ new) × KnownAt v

      module _ (w : World) (buf : List ℕ) (s : Sound w) (k : KnownAt w) where
        answer_as : (writes w buf).0.answer ≡ (written w.tnc.buffer buf w.reader).0.answer
        answer_as = sym (ap (λ (r : TncWritten × List ℕ × List ℕ × List ℕ). r.0.answer) (comes_to w s buf)) ∙ hosts.answer_is (link w) buf (link_sound w s)

        by_answer : (a : Result ℕ WriteError) → (writes w buf).0.answer ≡ a → Grows w (after_write w (writes w buf)) (brought_by g (frames_after a w buf) (host_of w))
        unfolding brought_by
        by_answer (Ok n) e =
            subst (λ (r : TncWritten × List ℕ × List ℕ × List ℕ). Grows w (after_write w r) (brought_by g (frames_held (after_written (link w).reader buf)) (host_of w))) (comes_to w s buf)
            (subst (λ (y : HostBox). Adds (host_of w) y (brought_by g (frames_held (after_written (link w).reader buf)) (host_of w)))
            (hosts.writes-take (link w) buf n (link_sound w s) (sym answer_as ∙ e)) (all_frames (frames_held (after_written (link w).reader buf)) (host_of w) (link_sound w s).its_host k))
        by_answer (Err Full) e = subst (λ (v : World). Grows w v []) (sym (write_refused w buf (λ n. absurd (omega (arith, sym (ap write_number e) ∙ n))))) (sym (append-nil (left_at w)), k)
        by_answer (Err NoRoom) e = subst (λ (v : World). Grows w v []) (sym (write_refused w buf (λ n. absurd (omega (arith, sym (ap write_number e) ∙ n))))) (sym (append-nil (left_at w)), k)
        by_answer (Err NoState) e = subst (λ (v : World). Grows w v []) (sym (write_refused w buf (λ n. absurd (omega (arith, sym (ap write_number e) ∙ n))))) (sym (append-nil (left_at w)), k)

      pub write_known : (w : World) (buf : List ℕ) → Sound w → KnownAt w → KnownAt (after_write w (writes w buf))
      write_known w buf s k = (by_answer w buf s k (writes w buf).0.answer refl).1

      -- ---- any call

      module _ (h : Transmission → TncTx → List A)
          (by_read : (w : World) → Sound w → KnownAt w → (left_at w ≡ h (transmission_of w.tnc.radio.state) (gives w) ++ left_at (with_both w (gives w).tnc (gives w).channel)) × KnownAt (with_both w (gives w).tnc (gives w).channel))
        where
          abbrev Flows : World → Call → Type 0
          Flows w c = (left_at w ++ brings g w c ≡ read_in h w c ++ left_at (after w c)) × KnownAt (after w c)

          -- nothing comes in and nothing goes out
          quiet : (w v : World) → Same w v → KnownAt w → (left_at w ++ [] ≡ left_at v) × KnownAt v
          quiet w v e k = (append-nil (left_at w) ∙ sym e.0, e.1 k)

          step : (w : World) (c : Call) → Sound w → KnownAt w → Flows w c
          unfolding brings read_in after
          step w (write_kiss buf) s k = let r = by_answer w buf s k (writes w buf).0.answer refl in (sym r.0, r.1)
          step w (read_kiss target) s k = quiet w (with_tnc w (reads w target).0.tnc) (read_same w target) k
          step w (handle_lsf lsf) s k = quiet w (after_heard w (hears w (lsf_in w lsf))) (heard-same w (lsf_in w lsf)) k
          step w (handle_packet f) s k = quiet w (after_heard w (hears w (packet_in w f))) (heard-same w (packet_in w f)) k
          step w (handle_stream f) s k = quiet w (after_heard w (hears w (stream_in w f))) (heard-same w (stream_in w f)) k
          step w (set_data_carrier_detect dcd) s k = quiet w w (refl, λ e. e) k
          step w (set_now samples) s k = quiet w (with_tnc w (now_set w.tnc w.channel samples).tnc) (now_same w samples) k
          step w (set_tx_end_time samples) s k = quiet w (with_tnc w (end_time_set w.tnc w.channel samples).tnc) (end_same w samples) k
          step w ptt s k = quiet w w (refl, λ e. e) k
          step w read_tx_frame s k = let r = by_read w s k in (append-nil (left_at w) ∙ r.0, r.1)

          -- any calls
          pub flows : (w : World) (cs : List Call) → AllTyped cs → Sound w → KnownAt w
              → (left_at w ++ over_all (brings g) w cs ≡ over_all (read_in h) w cs ++ left_at (run w cs)) × KnownAt (run w cs)
          unfolding over_all run AllTyped
          flows w [] d s k = (append-nil (left_at w), k)
          flows w (c ∷ cs) d s k =
              let a = step w c s k in let r = flows (after w c) cs d.1 (sound_stays_sound w c d.0 s) a.1 in
              let new = brings g w c in let more = over_all (brings g) (after w c) cs in let out = read_in h w c in (
                sym (append_assoc (left_at w) new more) ∙ ap (λ (l : List A). l ++ more) a.0 ∙ append_assoc out (left_at (after w c)) more
                    ∙ ap (λ (l : List A). out ++ l) r.0 ∙ sym (append_assoc out (over_all (read_in h) (after w c) cs) (left_at (run (after w c) cs))),
                r.1,
              )
