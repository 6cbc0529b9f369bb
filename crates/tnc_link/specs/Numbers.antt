-- A state as two numbers, its kind and its value, and which numbers are a state's, from document 01's "Bounds for 8". Assumes nothing.
use Rattle.std.specs.Prelude.{ℕ, ◌%◌, Bool, true, leb, eqb, Result, Ok, Err}
use Rattle.choice.specs.Pick.{pick, and}
use Rattle.state.specs.declared.State.{State}
use Rattle.state.specs.declared.State.TheVariants.{Idle, RxAcquiringStream, RxStream, RxPacket, TxStream, TxStreamSentEndOfStream, TxPacket, TxEnding, TxEndingAtTime}
use Rattle.tnc_link.specs.declared.StateNumbers.{StateNumbers}
use Rattle.tnc_link.specs.declared.NoState.{NoState}

abbrev pub state_kind : State → ℕ
state_kind Idle = 0
state_kind (RxAcquiringStream mask) = 1
state_kind (RxStream expected) = 2
state_kind (RxPacket count) = 3
state_kind TxStream = 4
state_kind TxStreamSentEndOfStream = 5
state_kind TxPacket = 6
state_kind TxEnding = 7
state_kind (TxEndingAtTime end) = 8

abbrev pub state_value : State → ℕ
state_value Idle = 0
state_value (RxAcquiringStream mask) = mask
state_value (RxStream expected) = expected
state_value (RxPacket count) = count
state_value TxStream = 0
state_value TxStreamSentEndOfStream = 0
state_value TxPacket = 0
state_value TxEnding = 0
state_value (TxEndingAtTime end) = end

abbrev pub state_numbers : State → StateNumbers
state_numbers s = record { kind = state_kind s; value = state_value s }

-- a kind of nine, with a number that a state of that kind can have
unfoldable pub valid_state : ℕ → ℕ → Bool
valid_state kind value =
    pick (eqb kind 1) (leb value 255)
    (pick (eqb kind 2) (leb value 65535)
    (pick (eqb kind 3) true
    (pick (eqb kind 8) true (and (leb kind 8) (eqb value 0)))))

unfoldable pub state_of : ℕ → ℕ → State
state_of kind value =
    pick (eqb kind 1) (RxAcquiringStream (value % 256))
    (pick (eqb kind 2) (RxStream (value % 65536))
    (pick (eqb kind 3) (RxPacket value)
    (pick (eqb kind 4) TxStream
    (pick (eqb kind 5) TxStreamSentEndOfStream
    (pick (eqb kind 6) TxPacket
    (pick (eqb kind 7) TxEnding
    (pick (eqb kind 8) (TxEndingAtTime value) Idle)))))))

-- the one value of its type
abbrev pub no_state : NoState
no_state = record {}

-- the state that two numbers stand for, where they are a state's
unfoldable pub state_read : ℕ → ℕ → Result State NoState
state_read kind value = pick (valid_state kind value) (Ok (state_of kind value)) (Err no_state)
