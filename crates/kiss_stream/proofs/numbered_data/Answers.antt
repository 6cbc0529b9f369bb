-- `kiss_stream::numbered_data` meets its contract. Assumes nothing.
use Rattle.std.proofs.Common.{◌≡◌, ◌∙◌, ◌/◌, ◌%◌, [], ◌∷◌, arith}
use Rattle.std.proofs.lemmas.Grind.{common_steps}
use Rattle.std.proofs.lemmas.List.{append-nil}
use Rattle.kiss_layout.specs.Stream.{numbered_data}
use Rattle.kiss_stream.proofs.numbered_data.Goals as goal

pub returns : goal.returns
unfolding numbered_data
returns c =
    let n = c.args.frame.frame_number in
    let number : c.copy_from_slice.new.self ≡ n / 256 ∷ n % 256 ∷ [] = c.copy_from_slice.ensures.after ∙ c.to_be_bytes.ensures ∙ grind (arith, common_steps) in
    rw (number, c.copy_from_slice-2.ensures.after, append-nil, c.end_mark.ensures)
