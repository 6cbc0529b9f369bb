-- What is promised of the reader over any run of its calls, and demand 3, from document 01. Each is proved in proofs/Kept.antt. Assumes nothing.
use Rattle.std.specs.Prelude.{ℕ, ◌≤◌, true, ◌≢◌, ◌≡◌, List, [], ◌∷◌, ◌++◌, map, length, take, drop, Ok, None, Some}
use Rattle.kiss_layout.specs.Escape.{FEND}
use Rattle.kiss_layout.specs.Build.{Building, port_of, command_of, content_of, frame_of}
use Rattle.kiss_layout.specs.Promises.{ReadsAs}
use Rattle.kiss_calls.specs.declared.KissBuffer.{KissBuffer}
use Rattle.kiss_reader.specs.Meaning.{frames_of}
use Rattle.kiss_reader.specs.Reader.{new_reader, STORE}
use Rattle.kiss_reader.specs.Promises.{joined, Folds, AllAccepted}
use Rattle.kiss_calls.specs.Calls.{buffer_of, sound_buffer, written, taken_by, next_frame, frame_in, write_number, next_number}

-- ---- runs

-- a record and its store, as the last call left them
pub record Box : Type 0 where
  pub buffer : KissBuffer
  pub store : List ℕ

abbrev pub new_box : List ℕ → Box
new_box store = record { buffer = buffer_of new_reader; store = store }

abbrev pub after_written : Box → List ℕ → Box
after_written x offered = record { buffer = (written x.buffer offered x.store).0.buffer; store = (written x.buffer offered x.store).1 }

abbrev pub after_next_frame : Box → Box
after_next_frame x = record { buffer = (next_frame x.buffer x.store).0.buffer; store = (next_frame x.buffer x.store).1 }

-- frames are taken until none is left: from x, the frames fs, which leaves y
pub data Drain : Box → List (List ℕ) → Box → Type 0 where
  none_left : {x : Box} → (next_frame x.buffer x.store).0.answer ≡ Ok None → Drain x [] (after_next_frame x)
  handed_out : {x y : Box} {n : ℕ} {fs : List (List ℕ)} → (next_frame x.buffer x.store).0.answer ≡ Ok (Some n) → Drain (after_next_frame x) fs y
      → Drain x (frame_in (after_next_frame x).buffer (after_next_frame x).store ∷ fs) y

-- a run over the input w that hands out the frames out: a write is offered the next n bytes of what is not yet taken, for any n; then frames are taken until
-- none is left; and so on, until all is taken
pub data Run : Box → List ℕ → List (List ℕ) → Type 0 where
  over : {x : Box} → Run x [] []
  write : {x y : Box} {w : List ℕ} {fs gs : List (List ℕ)} {k : ℕ} (n : ℕ) → (written x.buffer (take n w) x.store).0.answer ≡ Ok k
      → Drain (after_written x (take n w)) fs y → Run y (drop k w) gs → Run x w (fs ++ gs)

-- over every run from a new reader, whatever stood in its store, the frames handed out are exactly those of the input
abbrev pub RunGivesItsFrames : Type 0
RunGivesItsFrames = (store : List ℕ) → length store ≡ STORE → (w : List ℕ) (out : List (List ℕ)) → Run (new_box store) w out → out ≡ frames_of w

-- with any answer but 0 the record and all bytes of the store are as they were, and nothing is taken
abbrev pub RefusedKeepsAll : Type 0
RefusedKeepsAll =
    (x : Box) → ((offered : List ℕ) → write_number (written x.buffer offered x.store).0.answer ≢ 0
    → (taken_by (written x.buffer offered x.store).0.answer ≡ 0) × (after_written x offered ≡ x))
    × (next_number (next_frame x.buffer x.store).0.answer ≢ 0 → after_next_frame x ≡ x)

-- ---- and no run gets stuck

-- the store has its length and the record is within its bounds
pub record Sound (x : Box) : Type 0 where
  pub its_store : length x.store ≡ STORE
  pub its_state : sound_buffer x.buffer x.store ≡ true

-- a write of one byte or more takes at least one unless it is refused
abbrev pub WriteTakesSome : Type 0
WriteTakesSome =
    (x : Box) (offered : List ℕ) (k : ℕ) → (written x.buffer offered x.store).0.answer ≡ Ok k → 1 ≤ length offered → 1 ≤ k

-- once frames were taken until none is left, no write is refused
abbrev pub DrainedIsNotRefused : Type 0
DrainedIsNotRefused =
    (x y : Box) (fs : List (List ℕ)) (offered : List ℕ) → Sound x → Drain x fs y → (k : ℕ) × ((written y.buffer offered y.store).0.answer ≡ Ok k)

-- taking frames ends
abbrev pub TakingEnds : Type 0
TakingEnds = (x : Box) → Sound x → (fs : List (List ℕ)) × (y : Box) × Drain x fs y

-- a sound reader stays sound
abbrev pub SoundStaysSound : Type 0
SoundStaysSound = (x : Box) → Sound x → ((offered : List ℕ) → Sound (after_written x offered)) × Sound (after_next_frame x)

-- so every input has its run
abbrev pub EveryInputHasItsRun : Type 0
EveryInputHasItsRun = (store : List ℕ) → length store ≡ STORE → (w : List ℕ) → Run (new_box store) w (frames_of w)

-- ---- demand 3

-- each frame reads back as what it was built from
pub data AllReadBack : List Building → Type 0 where
  none_read : AllReadBack []
  one_read : {b : Building} {bs : List Building} → ReadsAs (frame_of b) (port_of b) (command_of b) (content_of b) → AllReadBack bs → AllReadBack (b ∷ bs)

-- any bytes, then built frames, neighbouring FENDs folded at will, cut anywhere: first the frames of the earlier bytes and one FEND, then exactly the built
-- frames, once each, in order, and each reads back as what it was built from
abbrev pub Demand3 : Type 0
Demand3 =
    (earlier : List ℕ) (b : Building) (bs : List Building) → AllAccepted (b ∷ bs)
    → (w : List ℕ) → Folds (earlier ++ joined (map frame_of (b ∷ bs))) w
    → (store : List ℕ) → length store ≡ STORE → (out : List (List ℕ)) → Run (new_box store) w out
    → (out ≡ frames_of (earlier ++ FEND ∷ []) ++ map frame_of (b ∷ bs)) × AllReadBack (b ∷ bs)
