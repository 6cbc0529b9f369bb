-- The promises of builders and of what is read from their frames are kept. Assumes nothing.
use mathlib.Core.Path.{◌≡◌, refl, sym, ap, ◌∙◌}
use mathlib.Core.Bool.{Bool, true, false}
use mathlib.Core.Logic.{◌≢◌}
use mathlib.Core.Option.{Option, none, some}
use mathlib.Core.List.{List}
use Prim.Native.Nat.{ℕ, ◌/◌, ◌%◌, ◌≤◌}
use native.Mathlib.Omega.{arith}
use lib.Dec.{ltb, eqb}
use lib.ListN.{length, length-append}
use borrow.Author.Tests.{ltb-false, eqb-true, ne_eqb}
use Rattle.choice.specs.Pick.{pick}
use Rattle.room.specs.Room.{fits, over}
use Rattle.kiss_layout.specs.declared.KissCommand.{KissCommand}
use Rattle.std.specs.Prelude.{Result, ℕ, Err, Ok}
use Rattle.kiss_layout.specs.declared.BuildError.{BuildError}
use Rattle.kiss_layout.specs.declared.BuildError.TheVariants.{PayloadTooBig, LsfWrongSize, OutOfRange, NoRoom}
use Rattle.kiss_layout.specs.Escape.{FEND}
use Rattle.kiss_layout.specs.Frame.{frame, put_frame, built_number}
use Rattle.kiss_layout.specs.Build.{Building, basic_packet, full_packet, stream_setup, stream_data, set_tx_delay, persistence, set_full_duplex, port_of, command_of, content_of, refusal, header_of, frame_of, unless, built}
use Rattle.kiss_layout.specs.Read.{command_number, port_at, port_read, command_for, command_at, command_read}
use Rattle.kiss_layout.specs.Promises.{Accepted, AcceptedIsBuilt, BuiltAtMost1713, LsfLengthFirst, RefusedKeepsRoom, ReadsAs, BuiltReadsBack, StreamContentReadsBack}
use Rattle.kiss_layout.proofs.Escapes.{esc-length}
use Rattle.kiss_layout.proofs.Frames.{frame-length, put_yes}
use Rattle.kiss_layout.proofs.Commands.{command_small, command_read_lem}
use Rattle.kiss_layout.proofs.Builds.{built-accepted}
use Rattle.kiss_layout.proofs.Streams.{stream-length, stream_of_lem, stream_crc}
use Rattle.kiss_layout.proofs.ReadBack.{frame_header, frame_payload}

-- ---- what acceptance says of the arguments

not_refused : (t : Bool) (r : BuildError) → pick t (some r) none ≡ none → t ≡ false
unfolding pick
not_refused true r e = let z : ◌≡◌ {A = ℕ} 0 1 = cc in absurd (omega arith)
not_refused false r e = refl

within : (most n : ℕ) (r : BuildError) → pick (ltb most n) (some r) none ≡ none → n ≤ most
within most n r e = ltb-false most n (not_refused (ltb most n) r e)

if_thirty : (n : ℕ) (o : Option BuildError) (r : BuildError) → pick (eqb n 30) o (some r) ≡ none → (n ≡ 30) × (o ≡ none)
unfolding pick
if_thirty n o r e = by (eqb n 30) refl e
  where
    by : (t : Bool) → eqb n 30 ≡ t → pick t o (some r) ≡ none → (n ≡ 30) × (o ≡ none)
    by true p q = (eqb-true n 30 p, q)
    by false p q = let z : ◌≡◌ {A = ℕ} 0 1 = cc in absurd (omega arith)

content_short : (b : Building) → Accepted b → length (content_of b) ≤ 855
unfolding refusal
content_short (basic_packet payload) ok = omega (arith, within 822 (length payload) PayloadTooBig ok.not_refused)
content_short (full_packet lsf packet) ok =
    let l = if_thirty (length lsf) (pick (ltb 825 (length packet)) (some PayloadTooBig) none) LsfWrongSize ok.not_refused in
    omega (arith, l.0, within 825 (length packet) PayloadTooBig l.1, length-append lsf packet)
content_short (stream_setup lsf) ok = omega (arith, (if_thirty (length lsf) none LsfWrongSize ok.not_refused).0)
content_short (stream_data frame) ok = omega (arith, stream-length frame ok.typed.0 ok.typed.1)
content_short (set_tx_delay port units) ok = omega arith
content_short (persistence port units) ok = omega arith
content_short (set_full_duplex port on) ok = omega arith

within_two : (n m : ℕ) → pick (ltb 5 n) (some OutOfRange) (pick (ltb 32767 m) (some OutOfRange) none) ≡ none → (n ≤ 5) × (m ≤ 32767)
unfolding pick
within_two n m e = by (ltb 5 n) refl e
  where
    by : (t : Bool) → ltb 5 n ≡ t → pick t (some OutOfRange) (pick (ltb 32767 m) (some OutOfRange) none) ≡ none → (n ≤ 5) × (m ≤ 32767)
    by true p q = let z : ◌≡◌ {A = ℕ} 0 1 = cc in absurd (omega arith)
    by false p q = (ltb-false 5 n p, within 32767 m OutOfRange q)

-- the port is one of 16, and no header is a FEND: of the data builders the port is below 3, of the others the command is not 0
pub header_right : (b : Building) → Accepted b → (port_of b ≤ 15) × (header_of (port_of b) (command_of b) ≢ FEND)
unfolding refusal
header_right (basic_packet payload) ok = omega arith
header_right (full_packet lsf packet) ok = omega arith
header_right (stream_setup lsf) ok = omega arith
header_right (stream_data frame) ok = omega arith
header_right (set_tx_delay port units) ok = omega (arith, within 15 port OutOfRange ok.not_refused)
header_right (persistence port units) ok = omega (arith, within 15 port OutOfRange ok.not_refused)
header_right (set_full_duplex port on) ok = omega (arith, within 15 port OutOfRange ok.not_refused)

-- ---- builders

pub accepted_is_built : AcceptedIsBuilt
accepted_is_built b room ok fit = sym (built-accepted b room (sym ok.not_refused)) ∙ put_yes (frame_of b) room fit

pub built_at_most_1713 : BuiltAtMost1713
built_at_most_1713 b ok = omega (arith, content_short b ok, esc-length (content_of b), frame-length (header_of (port_of b) (command_of b)) (content_of b))

pub lsf_length_first : LsfLengthFirst
unfolding refusal pick
lsf_length_first lsf packet h = rw (ne_eqb (length lsf) 30 h)

put_keeps_room : (f room : List ℕ) → built_number (put_frame f room).0 ≢ 0 → (put_frame f room).1 ≡ room
unfolding put_frame pick
put_keeps_room f room n = by (fits f room) n
  where
    by : (t : Bool) → built_number (pick {A = (Result ℕ BuildError) × List ℕ} t (Ok (length f), over f room) (Err NoRoom, room)).0 ≢ 0 → (pick {A = (Result ℕ BuildError) × List ℕ} t (Ok (length f), over f room) (Err NoRoom, room)).1 ≡ room
    by true g = absurd (g refl)
    by false g = refl

pub refused_keeps_room : RefusedKeepsRoom
unfolding built
refused_keeps_room b room n = by (refusal b) n
  where
    by : (o : Option BuildError) → built_number (unless o (frame_of b) room).0 ≢ 0 → (unless o (frame_of b) room).1 ≡ room
    by (some r) g = refl
    by none g = put_keeps_room (frame_of b) room g

-- ---- a frame that is read

-- one law over the port, the command and the content
reads_as : (port : ℕ) (command : KissCommand) (content : List ℕ) → port ≤ 15 → header_of port command ≢ FEND → ReadsAs (frame (header_of port command) content) port command content
unfolding port_read command_read
reads_as port command content p f =
    let small = command_small command in
    let high : header_of port command / 16 ≡ port = omega arith in
    let low : header_of port command % 16 ≡ command_number command = omega arith in
    let h = frame_header (header_of port command) content f in
    record {
      its_port = ap port_at h ∙ ap Ok high;
      its_command = ap command_at h ∙ ap command_for low ∙ command_read_lem command;
      its_payload = frame_payload (header_of port command) content f;
    }

pub built_reads_back : BuiltReadsBack
built_reads_back b ok = let h = header_right b ok in reads_as (port_of b) (command_of b) (content_of b) h.0 h.1

pub stream_content_reads_back : StreamContentReadsBack
unfolding refusal
stream_content_reads_back f ok =
    let r = within_two f.lich_idx f.frame_number ok.not_refused in
    (stream_of_lem f ok.typed.0 ok.typed.1 r.1, stream_crc f ok.typed.0)
