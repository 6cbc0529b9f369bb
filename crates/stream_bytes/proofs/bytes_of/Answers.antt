-- `stream_bytes::bytes_of` meets its contract. Assumes nothing.
use Rattle.std.proofs.Common.{◌≡◌, refl, ◌∙◌, rules}
use mathlib.Core.List.{append-nil}
use Rattle.crc.specs.Crc.{two_bytes}
use Rattle.streams.specs.Layout.{bytes_of}
use Rattle.stream_bytes.proofs.Stored.{high_first, end_is}
use Rattle.stream_bytes.proofs.bytes_of.Goals as goal

pub returns : goal.returns
unfolding bytes_of
returns c =
    let number : c.copy_from_slice-2.new.self ≡ two_bytes c.args.frame.frame_number = c.copy_from_slice-2.ensures.after ∙ c.to_be_bytes.ensures ∙ high_first _ (search rules) in
    rw (append-nil, c.copy_from_slice.ensures.after, number, c.copy_from_slice-3.ensures.after, end_is c.args.frame.end_of_stream) refl
