-- What a read for the modulator answers while nothing is being sent, and the state and the channel after it, from document 01 under "To the modulator" and "Channel access".
-- Assumes nothing.
use Rattle.choice.specs.Pick.{pick}
use Rattle.channel.specs.declared.Channel.{Channel}
use Rattle.std.specs.Prelude.{Result, Ok, Err, Some, None}
use Rattle.channel.specs.declared.Access.{Access}
use Rattle.channel.specs.declared.ChannelError.{ChannelError}
use Rattle.channel.specs.declared.Access.TheVariants.{Sends, Waits}
use Rattle.channel.specs.Access.{accessed}
use Rattle.state.specs.declared.State.{State}
use Rattle.state.specs.declared.State.TheVariants.{TxStream, TxPacket}
use Rattle.room.specs.declared.LentError.TheVariants.{OutOfBounds}
use Rattle.protocol.specs.declared.ModulatorFrame.TheVariants.{Preamble}
use Rattle.sending.specs.declared.Sending.{Sending}
use Rattle.sending.specs.Sending.{wants_to_send}
use Rattle.tx_frame.specs.declared.TxRead.{TxRead}
use Rattle.tx_frame.specs.Frame.{unfilled}

-- a preamble with the delay that the host set
abbrev pub preamble : State → Sending → Channel → TxRead
preamble state sending channel = unfilled (Ok (Some (Preamble sending.tx_delay))) state sending channel

-- a pending stream LSF goes before packets
unfoldable pub keyed_up : Sending → Channel → TxRead
keyed_up sending channel = preamble (pick sending.streams.pending TxStream TxPacket) sending channel

-- what channel access answered
abbrev pub allowed : Result Access ChannelError → State → Sending → Channel → TxRead
allowed (Ok Sends) state sending channel = keyed_up sending channel
allowed (Ok Waits) state sending channel = unfilled (Ok None) state sending channel
allowed (Err e) state sending channel = unfilled (Err OutOfBounds) state sending channel

-- the channel is asked where there is something to send
unfoldable pub begun : State → Sending → Channel → TxRead
begun state sending channel =
    pick (wants_to_send sending) (allowed (accessed channel).answer state sending (accessed channel).channel) (unfilled (Ok None) state sending channel)
