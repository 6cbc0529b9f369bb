-- `block_store::store16` meets its contract. Assumes nothing.
use Rattle.std.proofs.Common.{◌+◌, ◌-◌, ◌<◌, ◌≤◌, ◌≡◌, refl, sym, ◌∙◌, length, arith, rules}
use Rattle.std.proofs.lemmas.Slice.{put_mid-paste}
use lib.Seq.{sets-eq, take-length}
use Rattle.blocks.proofs.Blocks.{stored-yes, stored_no}
use Rattle.block_store.proofs.store16.Goals as goal

pub returns-then-dst-at-ge16 : goal.returns-then-dst-at-ge16
returns-then-dst-at-ge16 c =
    let a = c.args in
    let k : length a.t ≡ a.at + 16 - a.at = omega (arith, c.well_formed) in
    let h : a.at + length a.t ≤ length a.dst.now = omega arith in
    put_mid-paste a.at _ a.dst.now _ a.t (length a.t) c.copy_from_slice.ensures.after k refl
    ∙ rw (take-length a.t) (sym (sets-eq a.t a.dst.now a.at h))
    ∙ sym (stored-yes a.t a.dst.now a.at h)

pub returns-else-at-dst : goal.returns-else-at-dst
returns-else-at-dst c =
    let a = c.args in
    let h : length a.dst.now < a.at + length a.t = search rules in
    sym (stored_no a.t a.dst.now a.at h)
