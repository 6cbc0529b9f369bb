-- `tnc_air::collect_after` meets its contract. Assumes nothing.
use Rattle.std.proofs.Common.{ℕ, ◌+◌, ◌-◌, ◌≡◌, refl, ap, ◌∙◌, arith, rules}
use borrow.Rule.Slice.PartMut.{put_mid}
use lib.ListN.{length}
use Rattle.room.proofs.Parts.{lent_placed}
use Rattle.tnc_air.specs.Collected.{place_of}
use Rattle.tnc_air.proofs.Orders.{wrong_store, in_store, out_of_order, too_many, next_one}
use Rattle.tnc_air.proofs.collect_after.Goals as goal
use Rattle.tnc_air.proofs.collect_after.Goals.{then-index-count-via-then-index-count, then-index-count-via-else-index-count+then-index-ge32}

pub returns-then-rx-ne-RX_STORE_LEN : goal.returns-then-rx-ne-RX_STORE_LEN
returns-then-rx-ne-RX_STORE_LEN c = let a = c.args in wrong_store a.radio a.count a.index a.payload a.rx.now refl c.if-rx-ne-RX_STORE_LEN.true

pub returns-then-index-count : goal.returns-then-index-count
returns-then-index-count c =
    let a = c.args in
    in_store a.radio a.count a.index a.payload a.rx.now c.if-rx-ne-RX_STORE_LEN.false
    (elim c.then-index-count.branch [
      | then-index-count-via-then-index-count w ↦ out_of_order a.radio a.count a.index a.payload a.rx.now c.turned.ensures w.if-index-count.true
      | then-index-count-via-else-index-count+then-index-ge32 w ↦
          too_many a.radio a.count a.index a.payload a.rx.now c.turned.ensures w.if-index-count.false w.if-index-ge32.true
    ])

pub returns : goal.returns
returns c =
    let its_25 : length c.args.payload ≡ 25 = search rules in
    let a = c.args in let p = a.payload in let d = a.rx.now in let at : ℕ = place_of a.index in
    let e = ap (put_mid at (at + 25 - at) d) c.copy_from_slice.ensures.after ∙ lent_placed at (at + 25 - at) d p (omega (arith, its_25)) in
    in_store a.radio a.count a.index p d c.if-rx-ne-RX_STORE_LEN.false
    (next_one a.radio a.count a.index p d c.turned-2.ensures c.if-index-count.false (omega (arith, c.if-index-ge32.false)) e)
