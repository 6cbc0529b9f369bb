-- The promises are kept. Assumes nothing.
use Rattle.streams.proofs.Stored.{bytes_length, frame_of_lem}
use Rattle.event_stream.specs.Promises.{StreamRoundTrip}

pub stream_round_trip : StreamRoundTrip
stream_round_trip f five sixteen = (bytes_length f five sixteen, frame_of_lem f five sixteen)
