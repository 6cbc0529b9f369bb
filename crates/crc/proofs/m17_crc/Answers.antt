-- `crc::m17_crc` meets its contract. The invariant: the register, taken over the bytes that are left, comes to the CRC of all. Assumes nothing.
use Rattle.std.proofs.Common.{ℕ, ◌+◌, ◌*◌, ◌/◌, ◌%◌, ◌<◌, ◌≡◌, refl, sym, ap, subst, ◌∙◌, arith, rules, tests}
use lib.Bits.{bit_xor}
use lib.ListN.{length, drop, get_or}
use Rattle.choice.specs.Pick.{and}
use Rattle.crc.specs.Crc.{shift_bit, shift_byte, crc_byte, crc_from, crc_of}
use Rattle.crc.proofs.Linear.{crc_byte-lt}
use Rattle.crc.proofs.Lookup.{right, look_up, look_ups}
use Rattle.crc.proofs.Run.{crc_at, crc_at_two, crc_done, pair-first, pair-second, odd-byte}
use Rattle.crc.proofs.m17_crc.Goals as goal

pub loop-first-init : goal.loop-first-init
unfolding right and shift_byte shift_bit
loop-first-init c = (search rules, refl, record { full = refl; passes = tt }, record { full = refl; passes = tt })

pub loop-first-preserved : goal.loop-first-preserved
loop-first-preserved c =
    let s = c.args.input.now in let i = c.loop-first.first-index in let r = c.loop-first.crc in let at = i * 2 in
    let a = get_or s at 0 in let b = get_or s (at + 1) 0 in
    let h : i < length s / 2 = omega (arith, c.as_chunks.ensures.front_len) in
    let ea : c.from.result ≡ a = c.from.ensures ∙ pair-first s c.as_chunks.ensures.front i h in
    let eb : c.from-in-loop-first.result ≡ b = c.from-in-loop-first.ensures ∙ pair-second s c.as_chunks.ensures.front i h in
    let high = c.from-in-loop-first-2.ensures ∙ ap (bit_xor (r / 256)) ea in
    let low = c.from-in-loop-first-3.ensures ∙ ap (bit_xor (r % 256)) eb in
    let e = look_ups c.loop-first.invariant.2 c.loop-first.invariant.3 r a b high low c.loop-first.invariant.0 (omega (arith, c.type_inv.input at)) (omega (arith, c.type_inv.input (at + 1))) in
    let next : (i + 1) * 2 ≡ at + 2 = omega arith in (
      subst (λ (x : ℕ). x < 65536) (sym e) (crc_byte-lt (crc_byte r a) b),
      ap (λ (x : ℕ). crc_from x (drop ((i + 1) * 2) s)) e
          ∙ ap (λ (n : ℕ). crc_from (crc_byte (crc_byte r a) b) (drop n s)) next
          ∙ sym (crc_at_two s r at (omega arith))
          ∙ c.loop-first.invariant.1,
      c.loop-first.invariant.2,
      c.loop-first.invariant.3,
    )

pub returns-in-len1 : goal.returns-in-len1
unfolding crc_of
returns-in-len1 c =
    let s = c.args.input.now in let r = c.loop-first.crc in let at = c.loop-first.first-index * 2 in
    let b = get_or s at 0 in
    let odd : length s % 2 ≡ 1 = omega (arith, c.as_chunks.ensures.back_len) in
    let end : length s / 2 * 2 ≡ at = omega (arith, c.as_chunks.ensures.front_len) in
    let eb : c.from-in-len1.result ≡ b = c.from-in-len1.ensures ∙ odd-byte s (length s / 2 * 2) c.as_chunks.ensures.back ∙ ap (λ (n : ℕ). get_or s n 0) end in
    look_up c.loop-first.invariant.2 r b (c.from-in-len1-2.ensures ∙ ap (bit_xor (r / 256)) eb) c.loop-first.invariant.0 (omega (arith, c.type_inv.input at))
    ∙ sym (crc_done s (crc_byte r b) (at + 1) (omega arith))
    ∙ sym (crc_at s r at (omega arith))
    ∙ c.loop-first.invariant.1

pub returns-then-odd-lt1 : goal.returns-then-odd-lt1
unfolding crc_of
returns-then-odd-lt1 c =
    let s = c.args.input.now in
    let none : length c.as_chunks.result.1.now < 1 = search (rules, tests) in
    sym (crc_done s c.loop-first.crc (c.loop-first.first-index * 2) (omega (arith, c.as_chunks.ensures.front_len, c.as_chunks.ensures.back_len))) ∙ c.loop-first.invariant.1
