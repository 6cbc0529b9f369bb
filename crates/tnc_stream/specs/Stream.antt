-- What the TNC does with a stream frame from the air, from document 01's "From the air", "LSF, LICH, frames" and "Answer numbers" and m17core's tnc.rs. Assumes nothing.
use Rattle.std.specs.Prelude.{ℕ, List, ltb, Err}
use Rattle.choice.specs.Pick.{pick}
use Rattle.room.specs.Room.{over}
use Rattle.protocol.specs.Lsf.{part}
use Rattle.protocol.specs.declared.StreamFrame.{StreamFrame}
use Rattle.lich.specs.declared.LichCollection.{LichCollection}
use Rattle.state.specs.declared.Reception.{Reception}
use Rattle.state.specs.declared.Reception.TheVariants.{Nothing, Acquiring, Stream, Packet}
use Rattle.state.specs.State.{reception_of}
use Rattle.radio.specs.declared.Radio.{Radio}
use Rattle.radio.specs.declared.AirError.TheVariants.{OutOfRange}
use Rattle.radio.specs.declared.Heard.{Heard}
use Rattle.radio.specs.Radio.{answered, unless_sending}
use Rattle.tnc_stream.specs.Restarted.{with_frame, restarted}
use Rattle.tnc_stream.specs.Acquired.{acquired_with}
use Rattle.tnc_stream.specs.Followed.{followed}

-- ---- LICH acquisition

-- the collection whose mask is in the state and whose segments stand at the store's start
abbrev pub collection_at : ℕ → List ℕ → LichCollection
collection_at mask rx = record { segments = part 0 30 rx; mask = mask }

unfoldable pub acquired : Radio → ℕ → StreamFrame → List ℕ → List ℕ → Heard × List ℕ × List ℕ
acquired r mask f rx out =
    let c = with_frame f (collection_at mask rx) in let told = acquired_with r c f.frame_number out in (told.0, over c.segments rx, told.1)

-- ---- any frame

-- by what is being received
abbrev pub received_in : Reception → Radio → StreamFrame → List ℕ → List ℕ → Heard × List ℕ × List ℕ
received_in Nothing r f rx out = ((restarted r f rx).0, (restarted r f rx).1, out)
received_in (Acquiring mask) r f rx out = acquired r mask f rx out
received_in (Stream expected) r f rx out = followed r expected f rx out
received_in (Packet count) r f rx out = ((restarted r f rx).0, (restarted r f rx).1, out)

-- a LICH index over 5 and a frame number over 32,767 are 6, in every state that hears
unfoldable pub ranged : Radio → StreamFrame → List ℕ → List ℕ → Heard × List ℕ × List ℕ
ranged r f rx out =
    pick (ltb 5 f.lich_idx) (answered (Err OutOfRange) r, rx, out)
    (pick (ltb 32767 f.frame_number) (answered (Err OutOfRange) r, rx, out)
    (received_in (reception_of r.state) r f rx out))

unfoldable pub stream_heard : Radio → StreamFrame → List ℕ → List ℕ → Heard × List ℕ × List ℕ
stream_heard r f rx out = unless_sending r rx out (ranged r f rx out)
