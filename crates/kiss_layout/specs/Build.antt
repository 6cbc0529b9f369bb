-- The calls of the frame builders: what each asks for and which arguments it refuses, from document 01's "Answer numbers" and m17core's kiss.rs. Assumes nothing.
use Rattle.std.specs.Prelude.{ℕ, ◌+◌, ◌*◌, Bool, List, [], ◌∷◌, ◌++◌, ltb, eqb, length, Result, Err}
use Rattle.std.proofs.Math.Option.{Option, none, some}
use Rattle.choice.specs.Pick.{pick}
use Rattle.kiss_layout.specs.declared.KissCommand.{KissCommand}
use Rattle.kiss_layout.specs.declared.KissCommand.TheVariants.{DataFrame, TxDelay, P, FullDuplex}
use Rattle.kiss_layout.specs.Read.{command_number}
use Rattle.kiss_layout.specs.declared.BuildError.{BuildError}
use Rattle.kiss_layout.specs.declared.BuildError.TheVariants.{OutOfRange, PayloadTooBig, LsfWrongSize}
use Rattle.kiss_layout.specs.Frame.{frame, put_frame}
use Rattle.protocol.specs.declared.StreamFrame.{StreamFrame}
use Rattle.kiss_layout.specs.Stream.{stream_content}

-- a builder with its arguments
pub data Building : Type 0 where
  basic_packet : (payload : List ℕ) → Building
  full_packet : (lsf packet : List ℕ) → Building
  stream_setup : (lsf : List ℕ) → Building
  stream_data : (frame : StreamFrame) → Building
  set_tx_delay : (port units : ℕ) → Building
  persistence : (port units : ℕ) → Building
  set_full_duplex : (port : ℕ) (on : Bool) → Building

abbrev pub port_of : Building → ℕ
port_of (basic_packet payload) = 0
port_of (full_packet lsf packet) = 1
port_of (stream_setup lsf) = 2
port_of (stream_data frame) = 2
port_of (set_tx_delay port units) = port
port_of (persistence port units) = port
port_of (set_full_duplex port on) = port

abbrev pub command_of : Building → KissCommand
command_of (basic_packet payload) = DataFrame
command_of (full_packet lsf packet) = DataFrame
command_of (stream_setup lsf) = DataFrame
command_of (stream_data frame) = DataFrame
command_of (set_tx_delay port units) = TxDelay
command_of (persistence port units) = P
command_of (set_full_duplex port on) = FullDuplex

abbrev pub content_of : Building → List ℕ
content_of (basic_packet payload) = payload
content_of (full_packet lsf packet) = lsf ++ packet
content_of (stream_setup lsf) = lsf
content_of (stream_data frame) = stream_content frame
content_of (set_tx_delay port units) = units ∷ []
content_of (persistence port units) = units ∷ []
content_of (set_full_duplex port on) = pick on 1 0 ∷ []

-- of a port over 15
abbrev pub port_refusal : ℕ → Option BuildError
port_refusal port = pick (ltb 15 port) (some OutOfRange) none

-- the answer to arguments that are refused: an LSF that is not 30 bytes, then a basic payload over 822 or a packet over 825, then a LICH index over 5, a frame
-- number over 32,767 or a port over 15
unfoldable pub refusal : Building → Option BuildError
refusal (basic_packet payload) = pick (ltb 822 (length payload)) (some PayloadTooBig) none
refusal (full_packet lsf packet) = pick (eqb (length lsf) 30) (pick (ltb 825 (length packet)) (some PayloadTooBig) none) (some LsfWrongSize)
refusal (stream_setup lsf) = pick (eqb (length lsf) 30) none (some LsfWrongSize)
refusal (stream_data frame) = pick (ltb 5 frame.lich_idx) (some OutOfRange) (pick (ltb 32767 frame.frame_number) (some OutOfRange) none)
refusal (set_tx_delay port units) = port_refusal port
refusal (persistence port units) = port_refusal port
refusal (set_full_duplex port on) = port_refusal port

-- port times 16 plus command
abbrev pub header_of : ℕ → KissCommand → ℕ
header_of port command = port * 16 + command_number command

abbrev pub frame_of : Building → List ℕ
frame_of b = frame (header_of (port_of b) (command_of b)) (content_of b)

-- with a refusal the room stays
abbrev pub unless : Option BuildError → List ℕ → List ℕ → Result ℕ BuildError × List ℕ
unless (some refused) f d = (Err refused, d)
unless none f d = put_frame f d

-- the answer of a builder, and the room after it
unfoldable pub built : Building → List ℕ → Result ℕ BuildError × List ℕ
built b d = unless (refusal b) (frame_of b) d
