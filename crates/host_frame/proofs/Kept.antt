-- The promises of specs/Promises.antt are kept. Assumes nothing.
use Prim
use Prim.Native.Nat.{ℕ, ◌≤◌}
use mathlib.Core.Bool.{Bool, true, false, not}
use mathlib.Core.Path.{◌≡◌, refl, sym, ap, ◌∙◌, subst}
use mathlib.Core.List.{List, [], ◌∷◌}
use native.Mathlib.Omega.{arith}
use lib.Dec.{eqb, ltb}
use lib.ListN.{length, replicate}
use borrow.Author.Tests.{lt-ltb, le-ltb}
use Rattle.choice.specs.Pick.{pick, pick_all, pick_no, and_fst, and_snd, and_both}
use Rattle.kiss_layout.specs.declared.KissCommand.TheVariants.{DataFrame, TxDelay, P, FullDuplex}
use Rattle.std.specs.Prelude.{Err, Ok, Option, ℕ, None, Some, Result}
use Rattle.room.specs.declared.LentError.TheVariants.{WrongStore, OutOfBounds}
use Rattle.kiss_layout.specs.declared.KissCommand.{KissCommand}
use Rattle.kiss_layout.specs.declared.KissError.{KissError}
use Rattle.kiss_layout.specs.Read.{port_read, command_read}
use Rattle.kiss_layout.specs.Build.{Building, set_tx_delay, set_full_duplex, frame_of, refusal, content_of, port_of, command_of}
use Rattle.kiss_layout.specs.Promises.{Accepted}
use Rattle.kiss_layout.proofs.Kept.{built_reads_back}
use Rattle.channel.specs.Access.{with_duplex, sound_channel, duplex_set}
use Rattle.channel.proofs.Kept as channels
use Rattle.packets.specs.Queue.{STORE as PACKETS}
use Rattle.packets.proofs.Kept as packets
use Rattle.streams.specs.Queue.{STORE as STREAMS}
use Rattle.streams.proofs.Kept as streams
use Rattle.sending.specs.Sending.{sound_sending}
use Rattle.host_record.specs.declared.Host.{Host}
use Rattle.host_record.specs.Host.{sound_host}
use Rattle.host_frame.specs.Setting.{with_delay, with_channel, setting_from, setting_in, delay_set, duplex_of}
use Rattle.host_frame.specs.Data.{data_taken}
use Rattle.host_frame.specs.declared.FrameTaken.{FrameTaken}
use Rattle.host_frame.specs.Frame.{by_command, obeyed_on, by_port, obeyed, answered, frame_taken, frame_number}
use Rattle.host_frame.specs.Promises.{Box, taken_at, left_by, after, Sound, NewIsSound, RefusedKeepsAll, SoundStaysSound, OtherPortsIgnored, with_host, BuiltSettingsAreTaken}
use Rattle.host_frame.proofs.Cases.{taken, command_as, port_as}

pub new_is_sound : NewIsSound
unfolding sound_host sound_sending
new_is_sound = and_both (and_both packets.new_is_sound (streams.new_is_sound (replicate STREAMS 0) refl).its_state) channels.new_is_sound

-- what holds of a frame that is obeyed and of every refusal holds of what comes of a frame
each : (x : Box) (frame : List ℕ) (Q : FrameTaken × List ℕ × List ℕ → Type 0) → Q (answered (Err WrongStore) (x.host, x.packets, x.streams)) → Q (answered (Err OutOfBounds) (x.host, x.packets, x.streams))
    → Q (answered (Ok tt) (obeyed x.host frame x.packets x.streams)) → Q (taken_at x frame)
unfolding frame_taken
each x frame Q w o d =
    pick_all Q (eqb (length x.packets) PACKETS) _ _
    (λ t. pick_all Q (eqb (length x.streams) STREAMS) _ _ (λ u. pick_all Q (sound_host x.host) _ _ (λ v. d) (λ v. o)) (λ u. w))
    (λ t. w)

pub refused_keeps_all : RefusedKeepsAll
refused_keeps_all x frame = each x frame (λ r. (frame_number r.0.answer ≡ 0 → ⊥) → left_by r ≡ x) (λ n. refl) (λ n. refl) (λ n. absurd (n refl))

-- ---- the bounds

-- what a frame leaves
abbrev Leaves : Host × List ℕ × List ℕ → Type 0
Leaves w = Sound (record { host = w.0; packets = w.1; streams = w.2 })

module _ (x : Box) (frame : List ℕ) (s : Sound x) where
  sending_sound : sound_sending x.host.sending ≡ true
  unfolding sound_host
  sending_sound = and_fst _ _ s.its_host

  channel_sound : sound_channel x.host.channel ≡ true
  unfolding sound_host
  channel_sound = and_snd _ _ s.its_host

  delay_sound : (v : (Option ℕ)) → Leaves (delay_set v x.host, x.packets, x.streams)
  unfolding sound_host sound_sending
  delay_sound None = s
  delay_sound (Some byte) = record { its_packets = s.its_packets; its_streams = s.its_streams; its_host = and_both (and_both (and_fst _ _ sending_sound) (and_snd _ _ sending_sound)) channel_sound }

  duplex_sound : (v : (Option ℕ)) → Leaves (duplex_of v x.host, x.packets, x.streams)
  unfolding sound_host
  duplex_sound None = s
  duplex_sound (Some byte) =
      record {
        its_packets = s.its_packets;
        its_streams = s.its_streams;
        its_host = and_both sending_sound ((channels.sound_stays_sound x.host.channel channel_sound).by_duplex (not (eqb byte 0)));
      }

  data_sound : (port : ℕ) → Leaves (data_taken port x.host frame x.packets x.streams)
  unfolding data_taken sound_host sound_sending
  data_sound port =
      let p = (packets.sound_stays_sound x.host.sending.packets x.packets (record { its_store = s.its_packets; its_state = and_fst _ _ sending_sound })).0 frame in
      let q = (streams.sound_stays_sound (record { queue = x.host.sending.streams; store = x.streams }) (record { its_store = s.its_streams; its_state = and_snd _ _ sending_sound })).0 frame in
      pick_all Leaves (eqb port 0) _ _
      (λ t. record { its_packets = p.0.its_store; its_streams = s.its_streams; its_host = and_both (and_both p.0.its_state (and_snd _ _ sending_sound)) channel_sound })
      (λ t. pick_all Leaves (eqb port 1) _ _
      (λ u. record { its_packets = p.1.its_store; its_streams = s.its_streams; its_host = and_both (and_both p.1.its_state (and_snd _ _ sending_sound)) channel_sound })
      (λ u. record { its_packets = s.its_packets; its_streams = q.its_store; its_host = and_both (and_both (and_fst _ _ sending_sound) q.its_state) channel_sound }))

  command_sound : (c : (Result KissCommand KissError)) (port : ℕ) → Leaves (by_command c port x.host frame x.packets x.streams)
  command_sound (Err e) port = s
  command_sound (Ok DataFrame) port = data_sound port
  command_sound (Ok TxDelay) port = delay_sound (setting_in frame)
  command_sound (Ok P) port = s
  command_sound (Ok FullDuplex) port = duplex_sound (setting_in frame)

  port_sound : (p : (Result ℕ KissError)) → Leaves (by_port p x.host frame x.packets x.streams)
  unfolding obeyed_on
  port_sound (Err e) = s
  port_sound (Ok port) = pick_all Leaves (ltb 2 port) _ _ (λ t. s) (λ t. command_sound (command_read frame) port)

  obeyed_sound : Leaves (obeyed x.host frame x.packets x.streams)
  unfolding obeyed
  obeyed_sound = port_sound (port_read frame)

  -- the frame is obeyed
  obeys : answered (Ok tt) (obeyed x.host frame x.packets x.streams) ≡ taken_at x frame
  obeys = taken x.host frame x.packets x.streams s.its_packets s.its_streams s.its_host

pub sound_stays_sound : SoundStaysSound
sound_stays_sound x frame s =
    (sym (ap (λ (r : FrameTaken × List ℕ × List ℕ). r.0.answer) (obeys x frame s)), subst (λ r. Sound (left_by r)) (obeys x frame s) (obeyed_sound x frame s))

pub other_ports_ignored : OtherPortsIgnored
unfolding obeyed obeyed_on pick
other_ports_ignored x frame port e n = each x frame (λ r. left_by r ≡ x) refl refl (rw (e, lt-ltb 2 port n))

-- ---- settings that a builder wrote

module _ (x : Box) (s : Sound x) (port : ℕ) (n : port ≤ 2) where
  abbrev H : Host
  H = x.host

  -- what a builder's frame comes to: its command on its port
  comes_to : (b : Building) → port_of b ≡ port → Accepted b → after x (frame_of b) ≡ left_by (answered (Ok tt) (by_command (Ok (command_of b)) port H (frame_of b) x.packets x.streams))
  comes_to b e ok =
      let r = built_reads_back b ok in
      ap left_by (sym (obeys x (frame_of b) s)
      ∙ ap (answered (Ok tt)) (sym (port_as H (frame_of b) x.packets x.streams (Ok port) refl (r.its_port ∙ ap Ok e))
      ∙ sym (command_as H (frame_of b) x.packets x.streams port (Ok (command_of b)) n refl r.its_command)))

  -- the byte of a built setting
  byte_of : (b : Building) (v : ℕ) → Accepted b → content_of b ≡ v ∷ [] → setting_in (frame_of b) ≡ Some v
  unfolding setting_in setting_from pick
  byte_of b v ok e =
      let r = (built_reads_back b ok).its_payload (replicate 1 0) (omega (arith, ap length e)) in
      ap (λ (p : Result ℕ KissError × List ℕ). setting_from p.0 p.1) r ∙ rw e

  accepted_delay : (units : ℕ) → Accepted (set_tx_delay port units)
  unfolding refusal
  accepted_delay units = record { typed = Prim.tt; not_refused = sym (pick_no _ (le-ltb 15 port (omega (arith, n))) refl) }

  accepted_duplex : (on : Bool) → Accepted (set_full_duplex port on)
  unfolding refusal
  accepted_duplex on = record { typed = Prim.tt; not_refused = sym (pick_no _ (le-ltb 15 port (omega (arith, n))) refl) }

  delay_taken : (units : ℕ) → after x (frame_of (set_tx_delay port units)) ≡ with_host x (with_delay H units)
  delay_taken units =
      comes_to (set_tx_delay port units) refl (accepted_delay units)
      ∙ ap (λ (v : (Option ℕ)). with_host x (delay_set v H)) (byte_of (set_tx_delay port units) units (accepted_delay units) refl)

  -- the byte that says on or off
  said : (on : Bool) → (duplex_set H.channel (not (eqb (pick on 1 0) 0))).channel ≡ with_duplex H.channel on
  unfolding pick duplex_set
  said true = rw (channel_sound x [] s)
  said false = rw (channel_sound x [] s)

  duplex_taken : (on : Bool) → after x (frame_of (set_full_duplex port on)) ≡ with_host x (with_channel H (with_duplex H.channel on))
  duplex_taken on =
      comes_to (set_full_duplex port on) refl (accepted_duplex on)
      ∙ ap (λ (v : (Option ℕ)). with_host x (duplex_of v H)) (byte_of (set_full_duplex port on) (pick on 1 0) (accepted_duplex on) refl)
      ∙ ap (λ c. with_host x (with_channel H c)) (said on)

pub built_settings_are_taken : BuiltSettingsAreTaken
built_settings_are_taken x port s n = (delay_taken x s port n, duplex_taken x s port n)
