-- `lsf_bytes::with_type` meets its contract. Assumes nothing.
use Rattle.std.proofs.Common.{ℕ, ◌≡◌, ◌∙◌, ap, List, ◌++◌, length, take, drop, arith, rules}
use Rattle.std.proofs.lemmas.Grind.{common_steps}
use Rattle.crc.specs.Crc.{two_bytes, sealed, crc_of}
use Rattle.lsf_bytes.specs.Bytes.{meta, retyped}
use Rattle.lsf_bytes.proofs.Stored.{high_first, put_last, put_mid}
use Rattle.lsf_bytes.proofs.with_type.Goals as goal

pub returns : goal.returns
unfolding retyped meta sealed
returns c =
    let b = c.args.bytes in
    let thirty : length b ≡ 30 = search rules in
    let type_is : c.copy_from_slice.new.self ≡ two_bytes c.args.bits = c.copy_from_slice.ensures.after ∙ c.to_be_bytes.ensures ∙ high_first c.args.bits (search rules) in
    let typed : List ℕ = take 12 b ++ (c.copy_from_slice.new.self ++ drop 2 (drop 12 b)) in
    let crc_is : c.copy_from_slice-2.new.self ≡ two_bytes (crc_of (take 28 typed)) = c.copy_from_slice-2.ensures.after ∙ c.to_be_bytes-2.ensures ∙ high_first _ c.m17_crc-crc.type_inv ∙ ap two_bytes c.m17_crc-crc.ensures in
    put_last typed _ 28 2 (grind (arith, common_steps, thirty, type_is)) ∙ ap (λ e. take 28 typed ++ e) crc_is
    ∙ ap sealed (put_mid b _ 12 2 14 (omega (arith, thirty)) (ap length type_is) ∙ ap (λ e. take 12 b ++ e ++ meta b) type_is)
