-- Laws of `frames_of`: what gives no frame, cutting at a FEND, folding FENDs, built frames. Assumes nothing.
use mathlib.Core.Path.{◌≡◌, refl, sym, ap, ◌∙◌}
use mathlib.Core.Bool.{Bool, true, false}
use mathlib.Core.Option
use mathlib.Core.Option.{Option, none, some, map-eq-none_iff, some-ne-none}
use mathlib.Core.List.{List, [], ◌∷◌, ◌++◌, map, append_assoc}
use Prim.Native.Nat.{ℕ, ◌≤◌, ◌<◌}
use native.Mathlib.Omega.{arith}
use lib.Dec.{leb}
use lib.ListN.{length}
use borrow.Author.Tests.{le-leb, lt-leb, ne_eqb}
use Rattle.choice.specs.Pick.{pick, and}
use Rattle.kiss_layout.specs.Escape.{FEND, esc}
use Rattle.kiss_layout.proofs.Escaping.{escaped_has_no_fend}
use Rattle.kiss_layout.specs.Scan.{is_fend, stretch}
use Rattle.kiss_layout.proofs.Scans.{stretch_clear, stretch-closed}
use Rattle.kiss_layout.specs.Frame.{frame}
use Rattle.kiss_layout.specs.Build.{Building, port_of, command_of, content_of, header_of, frame_of}
use Rattle.kiss_layout.specs.Promises.{Accepted}
use Rattle.kiss_layout.proofs.Frames.{frame-length}
use Rattle.kiss_layout.proofs.Kept.{header_right, built_at_most_1713}
use Rattle.kiss_reader.specs.Meaning.{LONGEST, enclosed, kept, opened, frames_of}
use Rattle.kiss_reader.specs.Promises.{joined, Folds, ends, same, fold, AllAccepted, none_accepted, one_accepted}

-- ---- the first stretch of x ++ y: x's own, or x and y's

abbrev pub either : Option (List ℕ) → List ℕ → Option (List ℕ) → Option (List ℕ)
either (some s) x q = some s
either none x q = Option.map (λ s. x ++ s) q

pub stretch_append : (x y : List ℕ) → stretch (x ++ y) ≡ either (stretch x) x (stretch y)
unfolding stretch pick
stretch_append [] y = by (stretch y)
  where
    by : (q : Option (List ℕ)) → q ≡ Option.map (λ (s : List ℕ). s) q
    by none = refl
    by (some s) = refl
stretch_append (b ∷ x) y = by (is_fend b) (stretch x) (stretch y) (stretch_append x y)
  where
    by : (t : Bool) (p q : Option (List ℕ)) → stretch (x ++ y) ≡ either p x q
        → pick t (some []) (Option.map (λ s. b ∷ s) (stretch (x ++ y))) ≡ either (pick t (some []) (Option.map (λ s. b ∷ s) p)) (b ∷ x) q
    by true p q e = refl
    by false none none e = rw e
    by false none (some s) e = rw e
    by false (some s) q e = rw e

-- ---- which stretches are kept

pub kept_is : (s : List ℕ) → 1 ≤ length s → length s ≤ LONGEST → kept s ≡ enclosed s ∷ []
unfolding kept pick and
kept_is s h k = rw (le-leb 1 (length s) h, le-leb (length s) LONGEST k)

pub kept_long : (s : List ℕ) → LONGEST < length s → kept s ≡ []
unfolding kept pick and
kept_long s h = rw (lt-leb (length s) LONGEST h) (by (leb 1 (length s)))
  where
    by : (t : Bool) → pick (and t false) (enclosed s ∷ []) [] ≡ []
    by true = refl
    by false = refl

-- ---- bytes without a FEND, before w, give nothing

pub clear_frames : (x w : List ℕ) → stretch x ≡ none → frames_of (x ++ w) ≡ frames_of w
unfolding frames_of stretch pick
clear_frames [] w h = refl
clear_frames (b ∷ x) w h = by (is_fend b) h (clear_frames x w)
  where
    by : (t : Bool) → pick t (some []) (Option.map (λ s. b ∷ s) (stretch x)) ≡ none → (stretch x ≡ none → frames_of (x ++ w) ≡ frames_of w)
        → pick t (opened (stretch (x ++ w))) [] ++ frames_of (x ++ w) ≡ frames_of w
    by true e ih = absurd (some-ne-none [] e)
    by false e ih = ih ((map-eq-none_iff _ _).0 e)

-- ---- an input is cut at any FEND, which closes what stands before and opens what follows

pub cut_frames : (p w : List ℕ) → frames_of (p ++ FEND ∷ w) ≡ frames_of (p ++ FEND ∷ []) ++ frames_of (FEND ∷ w)
unfolding frames_of stretch pick
cut_frames [] w = refl
cut_frames (b ∷ p) w = rw (cut_frames p w, stretch_append p (FEND ∷ w), stretch_append p (FEND ∷ []), append_assoc)

-- ---- what a FEND opens

pub fend_frames : (w : List ℕ) → frames_of (FEND ∷ w) ≡ opened (stretch w) ++ frames_of w
unfolding frames_of pick
fend_frames w = refl

-- an empty stretch gives nothing

fend_alone : frames_of (FEND ∷ []) ≡ []
unfolding frames_of stretch pick
fend_alone = refl

pub fend_fend : (w : List ℕ) → frames_of (FEND ∷ FEND ∷ w) ≡ frames_of (FEND ∷ w)
unfolding frames_of stretch kept pick and
fend_fend w = refl

-- ---- folding neighbouring FENDs changes nothing

pub fold_stretch : {u v : List ℕ} → Folds u v → stretch u ≡ stretch v
unfolding stretch pick
fold_stretch ends = refl
fold_stretch (same b f) = rw (fold_stretch f)
fold_stretch (fold f) = fold_stretch f

pub fold_frames : {u v : List ℕ} → Folds u v → frames_of u ≡ frames_of v
unfolding frames_of
fold_frames ends = refl
fold_frames (same b f) = rw (fold_stretch f, fold_frames f)
fold_frames (fold {u} f) = fend_fend u ∙ fold_frames f

-- ---- built frames

-- what stands between a frame's two FENDs: no FEND, and 1 to 1,711 bytes
pub record Body (s : List ℕ) : Type 0 where
  pub clear : stretch s ≡ none
  pub some_byte : 1 ≤ length s
  pub short : length s ≤ LONGEST

pub body_frames : (s w : List ℕ) → Body s → frames_of (FEND ∷ (s ++ FEND ∷ w)) ≡ enclosed s ∷ frames_of (FEND ∷ w)
unfolding frames_of pick
body_frames s w h = rw (stretch-closed s w h.clear, kept_is s h.some_byte h.short, clear_frames s (FEND ∷ w) h.clear)

-- header and escaped content
abbrev pub body_of : Building → List ℕ
body_of b = header_of (port_of b) (command_of b) ∷ esc (content_of b)

pub built_body : (b : Building) → Accepted b → Body (body_of b)
unfolding stretch pick
built_body b ok =
    record {
      clear = rw (ne_eqb (header_of (port_of b) (command_of b)) FEND (header_right b ok).1, stretch_clear (esc (content_of b)) (escaped_has_no_fend (content_of b)));
      some_byte = omega arith;
      short = omega (arith, built_at_most_1713 b ok, frame-length (header_of (port_of b) (command_of b)) (content_of b));
    }

-- built frames behind a FEND: it and the FEND that opens the first hold nothing
pub joined_frames : {bs : List Building} → AllAccepted bs → frames_of (FEND ∷ joined (map frame_of bs)) ≡ map frame_of bs
unfolding frame
joined_frames none_accepted = fend_alone
joined_frames (one_accepted {b} {bs} ok oks) =
    fend_fend (body_of b ++ (FEND ∷ []) ++ joined (map frame_of bs))
    ∙ rw append_assoc (body_frames (body_of b) (joined (map frame_of bs)) (built_body b ok))
    ∙ ap {B = List (List ℕ)} (λ r. frame_of b ∷ r) (joined_frames oks)

-- any bytes, then one built frame or more, with neighbouring FENDs folded at will
pub built_frames : (earlier : List ℕ) {b : Building} {bs : List Building} {w : List ℕ} → AllAccepted (b ∷ bs)
    → Folds (earlier ++ joined (map frame_of (b ∷ bs))) w → frames_of w ≡ frames_of (earlier ++ FEND ∷ []) ++ map frame_of (b ∷ bs)
unfolding frame
built_frames earlier {b} {bs} {w} oks f =
    sym (fold_frames f)
    ∙ cut_frames earlier (body_of b ++ (FEND ∷ []) ++ joined (map frame_of bs))
    ∙ ap {B = List (List ℕ)} (λ r. frames_of (earlier ++ FEND ∷ []) ++ r) (sym (fend_fend (body_of b ++ (FEND ∷ []) ++ joined (map frame_of bs))) ∙ joined_frames oks)
