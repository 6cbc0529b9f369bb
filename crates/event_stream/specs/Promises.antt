-- What is promised of the layout of a stream frame, from document 01. Each is proved in proofs/Kept.antt. Assumes nothing.
use Rattle.std.specs.Prelude.{◌≡◌, length}
use Rattle.protocol.specs.declared.StreamFrame.{StreamFrame}
use Rattle.streams.specs.Layout.{FRAME, bytes_of, frame_of}

-- a frame as the code holds it has parts of these lengths: what was laid out reads back as the frame
abbrev pub StreamRoundTrip : Type 0
StreamRoundTrip = (f : StreamFrame) → length f.lich_part ≡ 5 → length f.stream_data ≡ 16 → (length (bytes_of f) ≡ FRAME) × (frame_of (bytes_of f) ≡ f)
