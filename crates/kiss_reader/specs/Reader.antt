-- What the reader's calls do, on the bytes that count of its store, from document 01 under "The reader's meaning" and m17core's KissBuffer. Assumes nothing.
use Rattle.std.specs.Prelude.{ℕ, ◌-◌, min, Bool, true, false, not, List, [], ◌∷◌, ◌++◌, leb, length, take, drop}
use Rattle.std.proofs.Math.Option.{Option, none, some, map}
use Rattle.choice.specs.Pick.{pick, and}
use Rattle.kiss_layout.specs.Scan.{is_fend, stretch, after_fends}
use Rattle.kiss_reader.specs.Meaning.{enclosed}

-- the bytes held, first to last, and whether the frame at their front was handed out
pub record Reader : Type 0 where
  pub held : List ℕ
  pub taken : Bool

abbrev pub new_reader : Reader
new_reader = record { held = []; taken = false }

-- how many bytes the store has
abbrev pub STORE : ℕ
STORE = 1713

-- what stands before the first FEND is passed over
unfoldable pub from_fend : List ℕ → List ℕ
from_fend [] = []
from_fend (b ∷ h) = pick (is_fend b) (b ∷ h) (from_fend h)

-- of a run of FENDs at the front only the last stays
abbrev pub last_fend : List ℕ → List ℕ
last_fend [] = []
last_fend (b ∷ h) = b ∷ after_fends h

unfoldable pub settle : List ℕ → List ℕ
settle h = last_fend (from_fend h)

-- a taken frame is dropped: the FEND that closed it, the last of a run, is the new front
unfoldable pub flush : Reader → List ℕ
flush r = pick r.taken (settle (drop 1 r.held)) r.held

-- the frame at the front, if a FEND closes it
unfoldable pub front : List ℕ → Option (List ℕ)
front h = map enclosed (stretch (drop 1 h))

abbrev pub is_some : Option (List ℕ) → Bool
is_some none = false
is_some (some f) = true

-- the next whole frame, anywhere in what is held, and the reader once it is handed out
unfoldable pub next : Reader → Option (List ℕ)
next r = front (settle (flush r))

unfoldable pub after_next : Reader → Reader
after_next r = record { held = settle (flush r); taken = is_some (next r) }

-- no byte more fits
unfoldable pub is_full : Reader → Bool
is_full r = leb STORE (length (flush r))

-- a write is refused where the store is full and holds a whole frame
unfoldable pub refused : Reader → Bool
refused r = and (is_full r) (is_some (next r))

-- what a write keeps: all, or nothing where the store is full and holds no whole frame
unfoldable pub kept_back : Reader → List ℕ
kept_back r = pick (and (is_full r) (not (is_some (next r)))) [] (flush r)

-- how many of the bytes offered a write takes: the smaller of those offered and the room
unfoldable pub takes : Reader → List ℕ → ℕ
takes r offered = min (length offered) (STORE - length (kept_back r))

unfoldable pub after_write : Reader → List ℕ → Reader
after_write r offered = record { held = kept_back r ++ take (takes r offered) offered; taken = false }
