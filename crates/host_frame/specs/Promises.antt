-- What is promised of one frame from the host, from document 01. Each is proved in proofs/Kept.antt. Assumes nothing.
use Rattle.std.specs.Prelude.{ℕ, ◌≤◌, ◌<◌, Bool, true, ◌≢◌, ◌≡◌, List, length, Ok}
use Rattle.kiss_layout.specs.Read.{port_read}
use Rattle.kiss_layout.specs.Build.{set_tx_delay, set_full_duplex, frame_of}
use Rattle.packets.specs.Queue.{STORE as PACKETS}
use Rattle.streams.specs.Queue.{STORE as STREAMS}
use Rattle.channel.specs.Access.{with_duplex}
use Rattle.host_record.specs.declared.Host.{Host}
use Rattle.host_record.specs.Host.{new_host, sound_host}
use Rattle.host_frame.specs.Setting.{with_delay, with_channel}
use Rattle.host_frame.specs.declared.FrameTaken.{FrameTaken}
use Rattle.host_frame.specs.Frame.{frame_taken, frame_number}

-- a record and its two stores, as the last call left them
pub record Box : Type 0 where
  pub host : Host
  pub packets : List ℕ
  pub streams : List ℕ

abbrev pub taken_at : Box → List ℕ → FrameTaken × List ℕ × List ℕ
taken_at x frame = frame_taken x.host frame x.packets x.streams

abbrev pub left_by : FrameTaken × List ℕ × List ℕ → Box
left_by r = record { host = r.0.host; packets = r.1; streams = r.2 }

abbrev pub after : Box → List ℕ → Box
after x frame = left_by (taken_at x frame)

-- the stores have their lengths and the record is within its bounds
pub record Sound (x : Box) : Type 0 where
  pub its_packets : length x.packets ≡ PACKETS
  pub its_streams : length x.streams ≡ STREAMS
  pub its_host : sound_host x.host ≡ true

abbrev pub NewIsSound : Type 0
NewIsSound = sound_host new_host ≡ true

-- with any answer but 0 nothing has changed
abbrev pub RefusedKeepsAll : Type 0
RefusedKeepsAll = (x : Box) (frame : List ℕ) → frame_number (taken_at x frame).0.answer ≢ 0 → after x frame ≡ x

-- a sound record is never refused, and stays sound, whatever the frame
abbrev pub SoundStaysSound : Type 0
SoundStaysSound = (x : Box) (frame : List ℕ) → Sound x → ((taken_at x frame).0.answer ≡ Ok tt) × Sound (after x frame)

-- ports over 2 are ignored: nothing has changed
abbrev pub OtherPortsIgnored : Type 0
OtherPortsIgnored = (x : Box) (frame : List ℕ) (port : ℕ) → port_read frame ≡ Ok port → 2 < port → after x frame ≡ x

-- a TxDelay or FullDuplex frame that a builder wrote for port 0, 1 or 2 sets just that, and nothing else has changed
abbrev pub with_host : Box → Host → Box
with_host x h = record { host = h; packets = x.packets; streams = x.streams }

abbrev pub BuiltSettingsAreTaken : Type 0
BuiltSettingsAreTaken =
    (x : Box) (port : ℕ) → Sound x → port ≤ 2
    → ((units : ℕ) → after x (frame_of (set_tx_delay port units)) ≡ with_host x (with_delay x.host units))
    × ((on : Bool) → after x (frame_of (set_full_duplex port on)) ≡ with_host x (with_channel x.host (with_duplex x.host.channel on)))
