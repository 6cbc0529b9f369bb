-- What a stream frame does where a stream is being received, from document 01's "From the air" and m17core's tnc.rs. Assumes nothing.
use Rattle.std.specs.Prelude.{ℕ, ◌+◌, List, ltb}
use Rattle.choice.specs.Pick.{pick}
use Rattle.protocol.specs.declared.StreamFrame.{StreamFrame}
use Rattle.kiss_layout.specs.Build.{stream_data}
use Rattle.state.specs.declared.State.{State}
use Rattle.state.specs.declared.State.TheVariants.{Idle, RxStream}
use Rattle.radio.specs.declared.Radio.{Radio}
use Rattle.radio.specs.declared.Heard.{Heard}
use Rattle.radio.specs.Radio.{to_host}
use Rattle.tnc_stream.specs.Restarted.{restarted}

-- the state behind a frame: none is being received where it is marked as the end, else the next number is expected
abbrev pub behind : StreamFrame → State
behind f = pick f.end_of_stream Idle (RxStream (f.frame_number + 1))

-- a frame numbered below the expected one restarts LICH acquisition; any other goes to the host
unfoldable pub followed : Radio → ℕ → StreamFrame → List ℕ → List ℕ → Heard × List ℕ × List ℕ
followed r expected f rx out =
    pick (ltb f.frame_number expected) ((restarted r f rx).0, (restarted r f rx).1, out)
    ((to_host (behind f) (stream_data f) out).0, rx, (to_host (behind f) (stream_data f) out).1)
