-- Port, command and payload of a frame, from document 01's header, its answers 3 and 4 and "ours sees only the frame's bytes". Assumes nothing.
use Rattle.std.specs.Prelude.{ℕ, ◌/◌, ◌%◌, List, [], ◌∷◌, eqb, Result, Err, Ok}
use Rattle.std.proofs.Math.Option.{Option, none, some}
use Rattle.choice.specs.Pick.{pick}
use Rattle.kiss_layout.specs.declared.KissCommand.{KissCommand}
use Rattle.kiss_layout.specs.declared.KissCommand.TheVariants.{DataFrame, TxDelay, P, FullDuplex}
use Rattle.kiss_layout.specs.declared.KissError.{KissError}
use Rattle.kiss_layout.specs.declared.KissError.TheVariants.{MalformedKissFrame, UnsupportedKissCommand}
use Rattle.kiss_layout.specs.Unescape.{unescaped}
use Rattle.kiss_layout.specs.Scan.{stretch, after_fends}

-- 0 data, 1 TxDelay, 2 P, 5 FullDuplex
abbrev pub command_number : KissCommand → ℕ
command_number DataFrame = 0
command_number TxDelay = 1
command_number P = 2
command_number FullDuplex = 5

-- the header is the first byte that is not FEND; its high half is the port
abbrev pub port_at : List ℕ → Result ℕ KissError
port_at [] = Err MalformedKissFrame
port_at (header ∷ s) = Ok (header / 16)

unfoldable pub port_read : List ℕ → Result ℕ KissError
port_read f = port_at (after_fends f)

-- the header's low half is the command
unfoldable pub command_for : ℕ → Result KissCommand KissError
command_for n =
    pick (eqb n 0) (Ok DataFrame)
    (pick (eqb n 1) (Ok TxDelay)
    (pick (eqb n 2) (Ok P)
    (pick (eqb n 5) (Ok FullDuplex) (Err UnsupportedKissCommand))))

abbrev pub command_at : List ℕ → Result KissCommand KissError
command_at [] = Err MalformedKissFrame
command_at (header ∷ s) = command_for (header % 16)

unfoldable pub command_read : List ℕ → Result KissCommand KissError
command_read f = command_at (after_fends f)

-- the content is what stands between the header and the next FEND, found before anything is unescaped
abbrev pub content_in : Option (List ℕ) → List ℕ → Result ℕ KissError × List ℕ
content_in none d = (Err MalformedKissFrame, d)
content_in (some content) d = (Ok (unescaped content d).0, (unescaped content d).1)

abbrev pub payload_at : List ℕ → List ℕ → Result ℕ KissError × List ℕ
payload_at [] d = (Err MalformedKissFrame, d)
payload_at (header ∷ s) d = content_in (stretch s) d

-- the answer of `decode_payload`, and the room after it
unfoldable pub decoded : List ℕ → List ℕ → Result ℕ KissError × List ℕ
decoded f d = payload_at (after_fends f) d

-- ---- document 01's numbers for the answers

abbrev pub kiss_number : KissError → ℕ
kiss_number MalformedKissFrame = 3
kiss_number UnsupportedKissCommand = 4

abbrev pub port_number : Result ℕ KissError → ℕ
port_number (Ok n) = 0
port_number (Err e) = kiss_number e

abbrev pub command_read_number : Result KissCommand KissError → ℕ
command_read_number (Ok c) = 0
command_read_number (Err e) = kiss_number e

abbrev pub decoded_number : Result ℕ KissError → ℕ
decoded_number (Ok n) = 0
decoded_number (Err e) = kiss_number e
