-- What a packet's frame that is not its last does where a packet is being received, from document 01's "From the air" and its answer 7. Assumes nothing.
use Rattle.std.specs.Prelude.{ℕ, ◌+◌, ◌*◌, List, eqb, ltb, length, Err}
use Rattle.choice.specs.Pick.{pick}
use Rattle.room.specs.Room.{placed}
use Rattle.state.specs.declared.State.TheVariants.{Idle, RxPacket}
use Rattle.radio.specs.declared.Radio.{Radio}
use Rattle.radio.specs.declared.AirError.TheVariants.{WrongStore}
use Rattle.radio.specs.declared.Heard.{Heard}
use Rattle.radio.specs.Radio.{RX, answered, turned}

abbrev pub idle : Radio → Heard
idle r = turned Idle r

-- where the frame after so many stands: behind the LSF, 25 bytes for each
abbrev pub place_of : ℕ → ℕ
place_of count = 30 + 25 * count

-- a packet index must equal the count and be below 32, else Idle
unfoldable pub collected_after : Radio → ℕ → ℕ → List ℕ → List ℕ → Heard × List ℕ
collected_after r count index payload rx =
    pick (eqb index count)
    (pick (ltb index 32) (turned (RxPacket (index + 1)) r, placed payload rx (place_of index)) (idle r, rx))
    (idle r, rx)

-- and a store of another length is 7
unfoldable pub collected_at : Radio → ℕ → ℕ → List ℕ → List ℕ → Heard × List ℕ
collected_at r count index payload rx = pick (eqb (length rx) RX) (collected_after r count index payload rx) (answered (Err WrongStore) r, rx)
