-- `kiss_sound::is_sound` meets its contract. Assumes nothing.
use Rattle.std.proofs.Common.{ℕ, ◌≤◌, ◌≡◌, refl, ◌∙◌}
use mathlib.Core.Bool.{Bool, true, false}
use mathlib.Core.List.{List}
use borrow.Author.Tests.{not-true, not-false, eq-eqb, ne_eqb, le-leb, lt-leb}
use lib.Dec.{eqb}
use lib.ListN.{length, take}
use Rattle.choice.specs.Pick.{and, pick_yes, pick_no, and_no, and_go}
use Rattle.kiss_reader.specs.Reader.{STORE}
use Rattle.kiss_reader.specs.Front.{stands_first}
use Rattle.kiss_calls.specs.declared.KissBuffer.{KissBuffer}
use Rattle.kiss_calls.specs.Calls.{sound_buffer}
use Rattle.kiss_sound.proofs.is_sound.Goals as goal
use Rattle.kiss_sound.proofs.is_sound.Goals.{then-store-ne-MAX_FRAME_LEN-via-then-store-ne-MAX_FRAME_LEN, then-store-ne-MAX_FRAME_LEN-via-else-store-ne-MAX_FRAME_LEN+then-buffer-gt-MAX_FRAME_LEN}

-- a store of its length and a record that fits it: what is left to ask is whether the frame that was handed out stands first
module _ (b : KissBuffer) (store : List ℕ) (full : length store ≡ STORE) (fits : b.filled ≤ STORE) where
  untaken : b.taken ≡ false → true ≡ and (eqb (length store) STORE) (sound_buffer b store)
  unfolding sound_buffer
  untaken t = and_go (eq-eqb (length store) STORE full) (and_go (le-leb b.filled STORE fits) (pick_no _ t refl))

  taken : b.taken ≡ true → {r : Bool} → r ≡ stands_first (take b.filled store) → r ≡ and (eqb (length store) STORE) (sound_buffer b store)
  unfolding sound_buffer
  taken t e = and_go (eq-eqb (length store) STORE full) (and_go (le-leb b.filled STORE fits) (pick_yes _ t e))

pub returns-then-store-ne-MAX_FRAME_LEN : goal.returns-then-store-ne-MAX_FRAME_LEN
unfolding sound_buffer
returns-then-store-ne-MAX_FRAME_LEN c =
    elim c.then-store-ne-MAX_FRAME_LEN.branch [
      | then-store-ne-MAX_FRAME_LEN-via-then-store-ne-MAX_FRAME_LEN w ↦ and_no _ (ne_eqb _ STORE w.if-store-ne-MAX_FRAME_LEN.true)
      | then-store-ne-MAX_FRAME_LEN-via-else-store-ne-MAX_FRAME_LEN+then-buffer-gt-MAX_FRAME_LEN w ↦
          and_go (eq-eqb _ STORE w.if-store-ne-MAX_FRAME_LEN.false) (and_no _ (lt-leb _ STORE w.if-buffer-gt-MAX_FRAME_LEN.true))
    ]

pub returns-then-not-buffer : goal.returns-then-not-buffer
returns-then-not-buffer c =
    let a = c.args in
    c.if-not-buffer.true ∙ untaken a.buffer a.store.now c.if-store-ne-MAX_FRAME_LEN.false c.if-buffer-gt-MAX_FRAME_LEN.false (not-true _ c.if-not-buffer.true)

pub returns-else-not-buffer : goal.returns-else-not-buffer
returns-else-not-buffer c =
    let a = c.args in
    taken a.buffer a.store.now c.if-store-ne-MAX_FRAME_LEN.false c.if-buffer-gt-MAX_FRAME_LEN.false (not-false _ c.if-not-buffer.false) c.stands_first.ensures
