-- Document 01's starred examples ("Examples at the edges"): one list of them, one test over it, and the statement that each passes, proved in proofs/Kept.antt.
-- Assumes nothing.
use Rattle.std.specs.Prelude.{ℕ, Bool, true, false, ◌≡◌, List, [], ◌∷◌, ◌++◌, map, eqb, take, replicate, Result, Ok, Err}
use Rattle.choice.specs.Pick.{and}
use Rattle.choice.specs.Cases.{all_pass, same}
use Rattle.protocol.specs.declared.PacketFrameCounter.{PacketFrameCounter}
use Rattle.protocol.specs.declared.PacketFrameCounter.TheVariants.{Frame as Counted, FinalFrame}
use Rattle.room.specs.declared.NoRoom.{NoRoom}
use Rattle.kiss_layout.specs.declared.BuildError.{BuildError}
use Rattle.kiss_layout.specs.Escape.{escaped}
use Rattle.kiss_layout.specs.Unescape.{unescaped}
use Rattle.kiss_layout.specs.Build.{Building, set_tx_delay, built}
use Rattle.kiss_reader.specs.Meaning.{frames_of}
use Rattle.packets.specs.Frames.{AirFrame, setup, piece, data_frames}

pub data Example : Type 0 where
  -- these bytes, escaped into this room, are those
  escapes : (bytes room gives : List ℕ) → Example
  -- this content, unescaped into this room, gives this count and leaves this room
  unescapes : (content room : List ℕ) (count : ℕ) (leaves : List ℕ) → Example
  -- this input of the reader holds these frames
  reads : (input : List ℕ) (frames : List (List ℕ)) → Example
  -- this call of a builder builds this frame, in a room of eight bytes
  builds : (call : Building) (gives : List ℕ) → Example
  -- a packet of that many bytes goes out as frames with these counters
  goes_out : (bytes : ℕ) (counters : List PacketFrameCounter) → Example

unfoldable pub starred : List Example
starred =
    escapes [] [] []
    ∷ escapes (0xC0 ∷ []) (0xEE ∷ 0xEE ∷ []) (0xDB ∷ 0xDC ∷ [])
    ∷ escapes (0x00 ∷ 0xC0 ∷ 0xDB ∷ 0xFF ∷ []) (0xEE ∷ 0xEE ∷ 0xEE ∷ 0xEE ∷ 0xEE ∷ 0xEE ∷ []) (0x00 ∷ 0xDB ∷ 0xDC ∷ 0xDB ∷ 0xDD ∷ 0xFF ∷ [])
    ∷ unescapes (0xDB ∷ 0xDC ∷ []) (0xEE ∷ 0xEE ∷ []) 1 (0xC0 ∷ 0xEE ∷ [])
    ∷ unescapes (0x41 ∷ 0xDB ∷ []) (0xEE ∷ 0xEE ∷ []) 1 (0x41 ∷ 0xEE ∷ [])
    ∷ unescapes (0xDB ∷ 0x41 ∷ []) (0xEE ∷ 0xEE ∷ []) 1 (0xEE ∷ 0xEE ∷ [])
    ∷ reads (0x55 ∷ 0xC0 ∷ []) []
    ∷ reads (0xC0 ∷ 0xC0 ∷ 0x01 ∷ 0x05 ∷ 0xC0 ∷ 0xC0 ∷ []) ((0xC0 ∷ 0x01 ∷ 0x05 ∷ 0xC0 ∷ []) ∷ [])
    ∷ reads (0xC0 ∷ 0x01 ∷ 0x05 ∷ 0xC0 ∷ 0x02 ∷ 0x06 ∷ 0xC0 ∷ []) ((0xC0 ∷ 0x01 ∷ 0x05 ∷ 0xC0 ∷ []) ∷ (0xC0 ∷ 0x02 ∷ 0x06 ∷ 0xC0 ∷ []) ∷ [])
    ∷ builds (set_tx_delay 0 192) (0xC0 ∷ 0x01 ∷ 0xDB ∷ 0xDC ∷ 0xC0 ∷ [])
    ∷ goes_out 26 (Counted 0 ∷ FinalFrame 1 ∷ [])
    ∷ goes_out 825 (
    map Counted (0 ∷ 1 ∷ 2 ∷ 3 ∷ 4 ∷ 5 ∷ 6 ∷ 7 ∷ 8 ∷ 9 ∷ 10 ∷ 11 ∷ 12 ∷ 13 ∷ 14 ∷ 15 ∷ 16 ∷ 17 ∷ 18 ∷ 19 ∷ 20 ∷ 21 ∷ 22 ∷ 23 ∷ 24 ∷ 25 ∷ 26 ∷ 27 ∷ 28 ∷ 29 ∷ 30 ∷ 31 ∷ [])
    ++ FinalFrame 25 ∷ [])
    ∷ []

-- ---- the test

abbrev pub wrote : Result ℕ NoRoom → List ℕ → List ℕ → Bool
wrote (Ok n) room gives = same (take n room) gives
wrote (Err error) room gives = false

unfoldable pub same_frames : List (List ℕ) → List (List ℕ) → Bool
same_frames [] [] = true
same_frames [] (g ∷ gs) = false
same_frames (f ∷ fs) [] = false
same_frames (f ∷ fs) (g ∷ gs) = and (same f g) (same_frames fs gs)

abbrev pub framed : Result ℕ BuildError → List ℕ → List ℕ → Bool
framed (Ok n) room gives = same (take n room) gives
framed (Err error) room gives = false

abbrev pub same_counter : PacketFrameCounter → PacketFrameCounter → Bool
same_counter (Counted i) (Counted j) = eqb i j
same_counter (Counted i) (FinalFrame n) = false
same_counter (FinalFrame m) (Counted j) = false
same_counter (FinalFrame m) (FinalFrame n) = eqb m n

-- packet frames with these counters, and nothing else
unfoldable pub counter_test : List AirFrame → List PacketFrameCounter → Bool
counter_test [] [] = true
counter_test [] (c ∷ cs) = false
counter_test (f ∷ fs) [] = false
counter_test (setup l ∷ fs) (c ∷ cs) = false
counter_test (piece f ∷ fs) (c ∷ cs) = and (same_counter f.counter c) (counter_test fs cs)

unfoldable pub holds : Example → Bool
holds (escapes bytes room gives) = wrote (escaped bytes room).0 (escaped bytes room).1 gives
holds (unescapes content room count leaves) = and (eqb (unescaped content room).0 count) (same (unescaped content room).1 leaves)
holds (reads input frames) = same_frames (frames_of input) frames
holds (builds call gives) = framed (built call (replicate 8 0xEE)).0 (built call (replicate 8 0xEE)).1 gives
holds (goes_out bytes counters) = counter_test (data_frames 0 (replicate bytes 5)) counters

-- document 01's starred examples hold
abbrev pub StarredHold : Type 0
StarredHold = all_pass holds starred ≡ true
