-- `block_load::load16` meets its contract. Assumes nothing.
use Rattle.std.proofs.Common.{ℕ, ◌+◌, ◌-◌, ◌<◌, ◌≡◌, sym, ap, ◌∙◌, length, take, drop, arith, rules}
use Rattle.blocks.proofs.Blocks.{loaded-yes, loaded_no}
use Rattle.block_load.proofs.load16.Goals as goal

pub returns-then-s-at-ge16 : goal.returns-then-s-at-ge16
returns-then-s-at-ge16 c =
    let a = c.args in
    let sixteen : a.at + 16 - a.at ≡ 16 = omega arith in
    c.copy_from_slice.ensures.after ∙ ap (λ (n : ℕ). take n (drop a.at a.s.now)) sixteen ∙ sym (loaded-yes a.s.now a.at (omega arith))

pub returns-else-at-s : goal.returns-else-at-s
returns-else-at-s c =
    let a = c.args in
    let h : length a.s.now < a.at + 16 = search rules in
    sym (loaded_no a.s.now a.at h)
