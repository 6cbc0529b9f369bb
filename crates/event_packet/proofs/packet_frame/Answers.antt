-- `event_packet::packet_frame` meets its contract. Assumes nothing.
use Rattle.std.proofs.Common.{◌≡◌, sym, arith, rules}
use lib.ListN.{length, take}
use lib.Seq.{length-take-le}
use Rattle.event_packet.proofs.packet_frame.Goals as goal

pub slice_bounds-try_into-end : goal.slice_bounds-try_into-end
slice_bounds-try_into-end c =
    let long : length c.args.body ≡ 26 = search rules in sym (length-take-le 25 c.args.body (omega (arith, long)))

pub unwrap-requires : goal.unwrap-requires
unwrap-requires c =
    let long : length c.args.body ≡ 26 = search rules in
    let cut : length (take 25 c.args.body) ≡ 25 = length-take-le 25 c.args.body (omega (arith, long)) in search (rules, cut)
