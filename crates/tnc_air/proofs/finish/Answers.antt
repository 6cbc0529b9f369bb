-- `tnc_air::finish` meets its contract. Assumes nothing.
use Rattle.std.proofs.Common.{ℕ, ◌+◌, ◌-◌, ◌*◌, ◌≤◌, ◌≡◌, refl, sym, ap, ◌∙◌, arith, rules}
use mathlib.Core.List.{List}
use borrow.Rule.Slice.PartMut.{put_mid}
use lib.ListN.{length, take}
use lib.Seq.{length-take-le}
use Rattle.room.proofs.Parts.{lent_placed}
use Rattle.room.proofs.Places.{placed-length}
use Rattle.radio.specs.declared.Heard.{Heard}
use Rattle.tnc_air.specs.Collected.{place_of}
use Rattle.tnc_air.specs.Heard.{completed, packet_told, finished_in, finished_after}
use Rattle.tnc_air.proofs.Packets.{too_long, finished_as, count_in_lem}
use Rattle.tnc_air.proofs.finish.Goals as goal

pub returns-then-len-gt25 : goal.returns-then-len-gt25
returns-then-len-gt25 c = let a = c.args in too_long a.radio a.len a.payload a.rx.now a.out.now refl c.if-len-gt25.true

pub overflow_mul-at : goal.overflow_mul-at
overflow_mul-at c =
    let count : ℕ = c.in-Packet.count in
    let its_count : count ≤ 32 = count_in_lem c.args.radio count c.requires.0 c.reception.ensures c.in-Packet.is in
    omega (arith, its_count)

pub overflow_add-at : goal.overflow_add-at
overflow_add-at c =
    let count : ℕ = c.in-Packet.count in
    let its_count : count ≤ 32 = count_in_lem c.args.radio count c.requires.0 c.reception.ensures c.in-Packet.is in
    omega (arith, its_count)

pub overflow_mul-count : goal.overflow_mul-count
overflow_mul-count c =
    let count : ℕ = c.in-Packet.count in
    let its_count : count ≤ 32 = count_in_lem c.args.radio count c.requires.0 c.reception.ensures c.in-Packet.is in
    omega (arith, its_count)

pub overflow_add-at-in-Packet : goal.overflow_add-at-in-Packet
overflow_add-at-in-Packet c =
    let count : ℕ = c.in-Packet.count in
    let its_count : count ≤ 32 = count_in_lem c.args.radio count c.requires.0 c.reception.ensures c.in-Packet.is in
    let short : c.args.len ≤ 25 = c.if-len-gt25.false in
    omega (arith, its_count, short)

pub overflow_add-count : goal.overflow_add-count
overflow_add-count c =
    let count : ℕ = c.in-Packet.count in
    let its_count : count ≤ 32 = count_in_lem c.args.radio count c.requires.0 c.reception.ensures c.in-Packet.is in
    let short : c.args.len ≤ 25 = c.if-len-gt25.false in
    omega (arith, its_count, short)

pub slice_bounds-copy_from_slice-end : goal.slice_bounds-copy_from_slice-end
slice_bounds-copy_from_slice-end c =
    let count : ℕ = c.in-Packet.count in
    let its_count : count ≤ 32 = count_in_lem c.args.radio count c.requires.0 c.reception.ensures c.in-Packet.is in
    let short : c.args.len ≤ 25 = c.if-len-gt25.false in
    omega (arith, its_count, short, c.requires.1)

pub tell_packet-requires : goal.tell_packet-requires
tell_packet-requires c =
    let a = c.args in let p = take a.len a.payload in let d = a.rx.now in
    let its_25 : length a.payload ≡ 25 = search rules in
    let count : ℕ = c.in-Packet.count in
    let its_count : count ≤ 32 = count_in_lem c.args.radio count c.requires.0 c.reception.ensures c.in-Packet.is in
    let short : c.args.len ≤ 25 = c.if-len-gt25.false in
    let its_len : length p ≡ a.len = length-take-le a.len a.payload (omega (arith, its_25, short)) in
    let at : ℕ = place_of count in let k : ℕ = at + a.len - at in
    let put : put_mid at k d c.copy_from_slice.new.self ≡ completed count a.len a.payload d =
    ap (put_mid at k d) c.copy_from_slice.ensures.after ∙ lent_placed at k d p (omega (arith, its_len)) in
    let fits : at + length p ≤ length d = omega (arith, its_len, its_count, short, c.requires.1) in
    (omega (arith, its_count, short), ap length put ∙ placed-length p d at fits ∙ c.requires.1, c.requires.2)

pub returns-in-Packet : goal.returns-in-Packet
unfolding finished_after
returns-in-Packet c =
    let a = c.args in let p = take a.len a.payload in let d = a.rx.now in
    let its_25 : length a.payload ≡ 25 = search rules in
    let count : ℕ = c.in-Packet.count in
    let its_count : count ≤ 32 = count_in_lem c.args.radio count c.requires.0 c.reception.ensures c.in-Packet.is in
    let short : c.args.len ≤ 25 = c.if-len-gt25.false in
    let its_len : length p ≡ a.len = length-take-le a.len a.payload (omega (arith, its_25, short)) in
    let at : ℕ = place_of count in let k : ℕ = at + a.len - at in
    let put : put_mid at k d c.copy_from_slice.new.self ≡ completed count a.len a.payload d =
    ap (put_mid at k d) c.copy_from_slice.ensures.after ∙ lent_placed at k d p (omega (arith, its_len)) in
    let q = c.tell_packet.ensures in let n = 25 * count + a.len in
    (λ t. ((q t).0, put_mid at k d c.copy_from_slice.new.self, (q t).1))
    ∙ ap (λ (w : List ℕ). ((packet_told n w a.out.now).0, w, (packet_told n w a.out.now).1)) put
    ∙ finished_as a.radio a.len a.payload d a.out.now short c.reception.ensures c.in-Packet.is

pub returns-in_default : goal.returns-in_default
returns-in_default c =
    let a = c.args in
    let idle : (c.turned.result, a.rx.now, a.out.now) ≡ finished_in c.reception.result a.radio a.len a.payload a.rx.now a.out.now = search rules in
    idle ∙ finished_as a.radio a.len a.payload a.rx.now a.out.now c.if-len-gt25.false c.reception.ensures refl
