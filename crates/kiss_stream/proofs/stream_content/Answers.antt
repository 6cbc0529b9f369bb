-- `kiss_stream::stream_content` meets its contract. Assumes nothing.
use Rattle.std.proofs.Common.{rules, ◌≡◌, ◌∙◌, length, arith}
use Rattle.std.proofs.lemmas.Grind.{common_steps}
use Rattle.crc.specs.Crc.{two_bytes, sealed}
use Rattle.kiss_layout.specs.Stream.{stream_content}
use Rattle.kiss_stream.proofs.Placed.{content_put}
use Rattle.kiss_stream.proofs.stream_content.Goals as goal

pub returns : goal.returns
unfolding stream_content sealed
returns c =
    let five : length c.copy_from_slice.new.self ≡ 5 = search rules in
    let eighteen : length c.copy_from_slice-2.new.self ≡ 18 = search rules in
    let crc : c.copy_from_slice-3.new.self ≡ two_bytes c.m17_crc.result = c.copy_from_slice-3.ensures.after ∙ c.to_be_bytes.ensures ∙ grind (arith, common_steps) in
    content_put c.copy_from_slice.new.self c.copy_from_slice-2.new.self c.copy_from_slice-3.new.self _ five eighteen
    ∙ rw (crc, c.copy_from_slice.ensures.after, c.copy_from_slice-2.ensures.after, c.m17_crc.ensures, c.numbered_data-inner.ensures)
