-- Laws of a packet's frames: one frame and the rest, and that joined again they are the data. Assumes nothing.
use Prim.Native.Nat.{ℕ, zero, suc, ◌+◌, ◌-◌, ◌*◌, ◌/◌, ◌≤◌, ◌<◌}
use mathlib.Core.Path.{◌≡◌, refl, sym, ◌∙◌}
use mathlib.Core.List.{List, [], ◌∷◌}
use native.Mathlib.Omega.{arith}
use borrow.Author.Tests.{leb-true}
use lib.Dec.{leb}
use lib.ListN.{length, take, drop, length-drop, take-append-drop}
use lib.Seq.{take-append_seam, take_all, take-take}
use Rattle.choice.specs.Pick.{pick_all}
use Rattle.protocol.specs.declared.PacketFrame.{PacketFrame}
use Rattle.packets.specs.Frames.{piece, padded, chunk, chunks, data_frames, counted, carried_lsf, carried_body}

pub data_none : (i : ℕ) → data_frames i [] ≡ []
unfolding data_frames chunks
data_none i = refl

pub data_next : (i : ℕ) (d : List ℕ) → 0 < length d → data_frames i d ≡ piece (chunk i d) ∷ data_frames (suc i) (drop 25 d)
unfolding data_frames chunks
data_next i d h =
    let e : (length d + 24) / 25 ≡ suc ((length d - 25 + 24) / 25) = omega arith in
    rw (length-drop, e)

-- ---- joined again

chunk_carried : (i : ℕ) (d : List ℕ) → take (counted (chunk i d).counter) (chunk i d).payload ≡ take 25 d
unfolding chunk padded
chunk_carried i d =
    pick_all (λ (f : PacketFrame). take (counted f.counter) f.payload ≡ take 25 d) (leb (length d) 25) _ _
    (λ h. take-append_seam d _ ∙ sym (take_all 25 d (leb-true _ _ h)))
    (λ h. take-take 25 25 d (omega arith))

chunks_carried : (n i : ℕ) (d : List ℕ) → length d ≤ n * 25 → carried_body (chunks n i d) ≡ d
unfolding carried_body chunks
chunks_carried zero i [] h = refl
chunks_carried zero i (x ∷ d) h = absurd (omega arith)
chunks_carried (suc n) i d h = rw (chunk_carried, chunks_carried n (suc i) (drop 25 d) (omega (arith, length-drop 25 d))) (take-append-drop 25 d)

pub data_carried : (i : ℕ) (d : List ℕ) → carried_body (data_frames i d) ≡ d
unfolding data_frames
data_carried i d = chunks_carried ((length d + 24) / 25) i d (omega arith)

chunks_no_lsf : (n i : ℕ) (d : List ℕ) → carried_lsf (chunks n i d) ≡ []
unfolding carried_lsf chunks
chunks_no_lsf zero i d = refl
chunks_no_lsf (suc n) i d = chunks_no_lsf n (suc i) (drop 25 d)

pub data_no_lsf : (i : ℕ) (d : List ℕ) → carried_lsf (data_frames i d) ≡ []
unfolding data_frames
data_no_lsf i d = chunks_no_lsf ((length d + 24) / 25) i d
