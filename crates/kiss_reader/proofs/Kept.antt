-- The promises of specs/Promises.antt are kept. Assumes nothing.
use Rattle.kiss_reader.specs.Promises.{FramesAreTheSplit, BuiltFramesAreMeant}
use Rattle.kiss_reader.proofs.Frames.{built_frames}
use Rattle.kiss_reader.proofs.Split.{frames_split}

pub frames_are_the_split : FramesAreTheSplit
frames_are_the_split = frames_split

pub built_frames_are_meant : BuiltFramesAreMeant
built_frames_are_meant earlier b bs oks w f = built_frames earlier oks f
