-- Document 01's starred examples hold, by one computed test. Assumes nothing.
use mathlib.Core.Path.{refl}
use Rattle.choice.specs.Pick.{pick, and}
use Rattle.choice.specs.Cases.{all_pass, same}
use Rattle.kiss_layout.specs.Escape.{esc_byte, esc, escaped}
use Rattle.kiss_layout.specs.Unescape.{codes, after_fesc, lay, unescaped}
use Rattle.kiss_layout.specs.Frame.{frame, put_frame}
use Rattle.kiss_layout.specs.Build.{refusal, built}
use Rattle.kiss_layout.specs.Scan.{stretch}
use Rattle.kiss_reader.specs.Meaning.{kept, frames_of}
use Rattle.packets.specs.Frames.{chunk, chunks, data_frames}
use Rattle.starred.specs.Starred.{starred, same_frames, counter_test, holds, StarredHold}

pub starred_hold : StarredHold
unfolding starred all_pass holds same_frames counter_test same and pick esc esc_byte escaped codes after_fesc lay unescaped built refusal put_frame frame frames_of stretch kept data_frames chunks chunk
starred_hold = refl
