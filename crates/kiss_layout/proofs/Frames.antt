-- Frames, and the stores that put one into a room. Assumes nothing.
use mathlib.Core.Path.{◌≡◌, sym, ap, ◌∙◌}
use mathlib.Core.List.{List, [], ◌∷◌, ◌++◌}
use Prim.Native.Nat.{ℕ, ◌+◌, ◌≤◌, ◌<◌}
use native.Mathlib.Omega.{arith}
use lib.ListN.{length, set, length-append}
use lib.Seq.{sets}
use borrow.Author.Tests.{le-leb, lt-leb}
use Rattle.choice.specs.Pick.{pick}
use Rattle.room.specs.Room.{over}
use Rattle.room.proofs.Runs.{put_front, sets_append}
use Rattle.std.specs.Prelude.{Ok, Err}
use Rattle.kiss_layout.specs.declared.BuildError.TheVariants.{NoRoom}
use Rattle.kiss_layout.specs.Escape.{FEND, esc}
use Rattle.kiss_layout.specs.Frame.{frame, put_frame}
use Rattle.kiss_layout.proofs.Escapes.{esc_append}

-- ---- a frame's length

pub frame-length : (h : ℕ) (s : List ℕ) → length (frame h s) ≡ length (esc s) + 3
unfolding frame
frame-length h s = omega (arith, length-append (esc s) (FEND ∷ []))

pub frame_length_two : (h : ℕ) (s t : List ℕ) → length (frame h (s ++ t)) ≡ length (esc s) + length (esc t) + 3
frame_length_two h s t = omega (arith, frame-length h (s ++ t), ap length (esc_append s t), length-append (esc s) (esc t))

-- ---- put into a room

pub put_yes : (f d : List ℕ) → length f ≤ length d → put_frame f d ≡ (Ok (length f), over f d)
unfolding put_frame pick
put_yes f d h = rw (le-leb (length f) (length d) h)

pub put_no : (f d : List ℕ) → length d < length f → put_frame f d ≡ (Err NoRoom, d)
unfolding put_frame pick
put_no f d h = rw (lt-leb (length f) (length d) h)

-- the stores that make a frame, of one content and of two, one behind the other
frame_stored_one : (h : ℕ) (s d : List ℕ) → length (frame h s) ≤ length d → set (sets (set (set d 0 FEND) 1 h) 2 (esc s)) (2 + length (esc s)) FEND ≡ over (frame h s) d
unfolding frame
frame_stored_one h s d k = sym (sets_append (set (set d 0 FEND) 1 h) 2 (esc s) (FEND ∷ [])) ∙ put_front d (frame h s) k

pub frame-stored : (h : ℕ) (s t d : List ℕ) (at end : ℕ) → at ≡ 2 + length (esc s) → end ≡ at + length (esc t) → end < length d
    → set (sets (sets (set (set d 0 FEND) 1 h) 2 (esc s)) at (esc t)) end FEND ≡ over (frame h (s ++ t)) d
frame-stored h s t d at end p q fit =
    let r : end ≡ 2 + length (esc s ++ esc t) = omega (arith, length-append (esc s) (esc t)) in
    let k : length (frame h (s ++ t)) ≤ length d = omega (arith, frame_length_two h s t) in
    rw (r, p, ← sets_append (set (set d 0 FEND) 1 h) 2 (esc s) (esc t), ← esc_append s t) (frame_stored_one h (s ++ t) d k)
