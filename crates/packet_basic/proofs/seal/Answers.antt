-- `packet_basic::seal` meets its contract. Assumes nothing.
use Rattle.std.proofs.Common.{◌≡◌, ◌∙◌, arith}
use Rattle.std.proofs.lemmas.Grind.{common_steps}
use Rattle.crc.specs.Crc.{two_bytes}
use Rattle.packet_basic.proofs.Rooms.{sealed-at}
use Rattle.packet_basic.proofs.seal.Goals as goal

pub returns : goal.returns
returns c =
    let a = c.args in
    let crc : c.copy_from_slice-2.new.self ≡ two_bytes c.m17_crc-crc.result = c.copy_from_slice-2.ensures.after ∙ c.to_be_bytes.ensures ∙ grind (arith, common_steps) in
    sealed-at a.store.now a.at a.n c.requires.0 c.requires.1 (c.copy_from_slice.ensures.after ∙ c.packet_basic.ensures) c.m17_crc-crc.ensures crc
