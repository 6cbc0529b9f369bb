-- A frame whose header is no FEND reads back as its header and its content. Assumes nothing.
use mathlib.Core.Path.{◌≡◌, ap, ◌∙◌}
use mathlib.Core.Logic.{◌≢◌}
use mathlib.Core.Option.{Option}
use mathlib.Core.List.{List, [], ◌∷◌, ◌++◌}
use Prim.Native.Nat.{ℕ, ◌≤◌}
use lib.ListN.{length}
use borrow.Author.Tests.{ne_eqb}
use Rattle.choice.specs.Pick.{pick}
use Rattle.room.specs.Room.{over}
use Rattle.std.specs.Prelude.{Ok}
use Rattle.kiss_layout.specs.Escape.{FEND, esc}
use Rattle.kiss_layout.specs.Scan.{after_fends}
use Rattle.kiss_layout.specs.Frame.{frame}
use Rattle.kiss_layout.specs.Read.{content_in, payload_at, decoded}
use Rattle.kiss_layout.proofs.Escaping.{escape_round_trip, escaped_has_no_fend}
use Rattle.kiss_layout.proofs.Scans.{stretch_clear, stretch-closed}

-- ---- a frame

module _ (h : ℕ) (content : List ℕ) (f : h ≢ FEND) where
  pub frame_header : after_fends (frame h content) ≡ h ∷ esc content ++ (FEND ∷ [])
  unfolding frame after_fends pick
  frame_header = rw (ne_eqb h FEND f)

  pub frame_payload : (room : List ℕ) → length content ≤ length room → decoded (frame h content) room ≡ (Ok (length content), over content room)
  unfolding decoded
  frame_payload room fit =
      ap (λ (l : List ℕ). payload_at l room) frame_header
      ∙ ap (λ (o : Option (List ℕ)). content_in o room) (stretch-closed (esc content) [] (stretch_clear (esc content) (escaped_has_no_fend content)))
      ∙ ap (λ (x : ℕ × List ℕ). (Ok x.0, x.1)) (escape_round_trip content room fit)
