-- `tnc_air::tell_packet` meets its contract. Assumes nothing.
use Rattle.std.proofs.Common.{ℕ, ◌+◌, ◌-◌, ◌≤◌, ◌≡◌, sym, ap, ◌∙◌, arith}
use lib.ListN.{length, take, drop, length-take}
use lib.Seq.{length-take-le}
use Rattle.protocol.specs.Lsf.{part}
use Rattle.kiss_layout.specs.Build.{full_packet, built}
use Rattle.state.specs.declared.State.TheVariants.{Idle}
use Rattle.radio.proofs.Messages.{packet_accepted}
use Rattle.radio_told.proofs.Tells.{told}
use Rattle.tnc_air.proofs.tell_packet.Goals as goal

pub slice_bounds-new_full_packet-end : goal.slice_bounds-new_full_packet-end
slice_bounds-new_full_packet-end c =
    let its_lsf : length (take 30 c.args.rx.now) ≡ 30 = length-take-le 30 c.args.rx.now (omega (arith, c.requires.1)) in
    sym (its_lsf)

pub returns : goal.returns
returns c =
    let its_lsf : length (take 30 c.args.rx.now) ≡ 30 = length-take-le 30 c.args.rx.now (omega (arith, c.requires.1)) in
    let n = c.args.len in let rx = c.args.rx.now in
    let out = c.args.out.now in let m : 30 + n - 30 ≡ n = omega arith in
    let short : length (part 30 n rx) ≤ 825 = omega (arith, length-take n (drop 30 rx), c.requires.0) in
    told Idle (full_packet (part 0 30 rx) (part 30 n rx)) out _ _ _ (packet_accepted (take 30 rx) (part 30 n rx) (its_lsf) short) c.requires.2
    (c.new_full_packet-built.ensures ∙ ap (λ (i : ℕ). built (full_packet (take 30 rx) (part 30 i rx)) out) m) c.told.ensures
