-- What is promised of escaping, of the builders and of what is read from their frames, from the KISS paper and document 01. Those of escaping are proved in
-- proofs/Escaping.antt, the others in proofs/Kept.antt. Assumes nothing.
use Rattle.std.specs.Prelude.{ℕ, ◌*◌, ◌≤◌, ◌<◌, ◌≢◌, ◌≡◌, List, length, drop, get_or, Ok}
use Rattle.std.proofs.Math.Option.{none, some}
use Rattle.room.specs.Room.{over}
use Rattle.crc.specs.Crc.{crc_of}
use Rattle.protocol.specs.declared.StreamFrame.{StreamFrame}
use Rattle.kiss_layout.specs.declared.KissCommand.{KissCommand}
use Rattle.kiss_layout.specs.declared.BuildError.TheVariants.{LsfWrongSize}
use Rattle.kiss_layout.specs.Escape.{FEND, esc}
use Rattle.kiss_layout.specs.Unescape.{unescaped}
use Rattle.kiss_layout.specs.Frame.{built_number}
use Rattle.kiss_layout.specs.Stream.{stream_content, stream_of}
use Rattle.kiss_layout.specs.Build.{Building, basic_packet, full_packet, stream_setup, stream_data, set_tx_delay, persistence, set_full_duplex, port_of, command_of, content_of, refusal, frame_of, built}
use Rattle.kiss_layout.specs.Read.{port_read, command_read, decoded}

-- ---- escaping

-- unescaping what was escaped, given room, gives it back, and what lies beyond in the room stays
abbrev pub EscapeRoundTrip : Type 0
EscapeRoundTrip = (s room : List ℕ) → length s ≤ length room → unescaped (esc s) room ≡ (length s, over s room)

-- no FEND stands in what was escaped
abbrev pub EscapedHasNoFend : Type 0
EscapedHasNoFend = (s : List ℕ) (i : ℕ) → i < length (esc s) → get_or (esc s) i 0 ≢ FEND

-- escaping makes nothing shorter, and nothing more than twice as long
abbrev pub EscapedAtMostTwice : Type 0
EscapedAtMostTwice = (s : List ℕ) → (length s ≤ length (esc s)) × (length (esc s) ≤ 2 * length s)

-- whatever the content, the room keeps its length and the count stays within it
abbrev pub UnescapeStaysInRoom : Type 0
UnescapeStaysInRoom = (content room : List ℕ) → (length (unescaped content room).1 ≡ length room) × ((unescaped content room).0 ≤ length room)

-- ---- builders

-- the arrays in a builder's arguments have their types' lengths
abbrev pub Typed : Building → Type 0
Typed (basic_packet payload) = Unit {0}
Typed (full_packet lsf packet) = Unit {0}
Typed (stream_setup lsf) = Unit {0}
Typed (stream_data frame) = (length frame.lich_part ≡ 5) × (length frame.stream_data ≡ 16)
Typed (set_tx_delay port units) = Unit {0}
Typed (persistence port units) = Unit {0}
Typed (set_full_duplex port on) = Unit {0}

-- arguments that a builder accepts
pub record Accepted (b : Building) : Type 0 where
  pub typed : Typed b
  pub not_refused : refusal b ≡ none

-- accepted arguments and room for the frame: the frame stands at the room's start, and what lies beyond stays
abbrev pub AcceptedIsBuilt : Type 0
AcceptedIsBuilt = (b : Building) (room : List ℕ) → Accepted b → length (frame_of b) ≤ length room → built b room ≡ (Ok (length (frame_of b)), over (frame_of b) room)

-- no frame that is built is longer than 1,713 bytes
abbrev pub BuiltAtMost1713 : Type 0
BuiltAtMost1713 = (b : Building) → Accepted b → length (frame_of b) ≤ 1713

-- an LSF that is not 30 bytes is answered 2, whatever the packet is
abbrev pub LsfLengthFirst : Type 0
LsfLengthFirst = (lsf packet : List ℕ) → length lsf ≢ 30 → refusal (full_packet lsf packet) ≡ some LsfWrongSize

-- with any answer but 0 the room is as it was
abbrev pub RefusedKeepsRoom : Type 0
RefusedKeepsRoom = (b : Building) (room : List ℕ) → built_number (built b room).0 ≢ 0 → (built b room).1 ≡ room

-- ---- a frame that is read gives back what it was built from

pub record ReadsAs (f : List ℕ) (port : ℕ) (command : KissCommand) (content : List ℕ) : Type 0 where
  pub its_port : port_read f ≡ Ok port
  pub its_command : command_read f ≡ Ok command
  pub its_payload : (room : List ℕ) → length content ≤ length room → decoded f room ≡ (Ok (length content), over content room)

abbrev pub BuiltReadsBack : Type 0
BuiltReadsBack = (b : Building) → Accepted b → ReadsAs (frame_of b) (port_of b) (command_of b) (content_of b)

-- and the content of a stream data frame stands for the very frame that the builder was given, its CRC being that of its number and data
abbrev pub StreamContentReadsBack : Type 0
StreamContentReadsBack = (f : StreamFrame) → Accepted (stream_data f) → (stream_of (stream_content f) ≡ f) × (crc_of (drop 6 (stream_content f)) ≡ 0)
