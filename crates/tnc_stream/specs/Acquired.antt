-- LICH acquisition: what the segments are together that stream frames bring, from document 01's "From the air" and "LSF, LICH, frames" and m17core's tnc.rs. Assumes nothing.
use Rattle.std.specs.Prelude.{ℕ, ◌+◌, Bool, List, eqb}
use Rattle.choice.specs.Pick.{pick, and}
use Rattle.crc.specs.Crc.{crc_of}
use Rattle.lich.specs.declared.LichCollection.{LichCollection}
use Rattle.lich.specs.Lich.{heard_count}
use Rattle.kiss_layout.specs.Build.{stream_setup}
use Rattle.state.specs.declared.State.TheVariants.{RxStream}
use Rattle.radio.specs.declared.Radio.{Radio}
use Rattle.radio.specs.declared.Heard.{Heard}
use Rattle.radio.specs.Radio.{to_host}
use Rattle.tnc_stream.specs.Restarted.{collecting}

-- all six segments have been heard, and they are an LSF whose CRC is 0
abbrev pub complete : LichCollection → Bool
complete c = and (eqb (heard_count c.mask) 6) (eqb (crc_of c.segments) 0)

-- then the LSF goes to the host, and the next number is expected; this frame's data and its end are passed over
unfoldable pub acquired_with : Radio → LichCollection → ℕ → List ℕ → Heard × List ℕ
acquired_with r c number out = pick (complete c) (to_host (RxStream (number + 1)) (stream_setup c.segments) out) (collecting r c, out)
