-- `host_frame::obey_on` meets its contract. Assumes nothing.
use Rattle.std.proofs.Common.{◌≡◌, ap, ◌∙◌}
use Rattle.kiss_layout.specs.declared.KissCommand.TheVariants.{DataFrame, TxDelay, P, FullDuplex}
use Rattle.std.specs.Prelude.{Result, Err, Ok}
use Rattle.kiss_layout.specs.declared.KissCommand.{KissCommand}
use Rattle.kiss_layout.specs.declared.KissError.{KissError}
use Rattle.host_frame.specs.Frame.{by_command, obeyed_on}
use Rattle.host_frame.proofs.Cases.{other_port, command_as}
use Rattle.host_frame.proofs.obey_on.Goals as goal

pub returns-then-number-gt2 : goal.returns-then-number-gt2
returns-then-number-gt2 c = let a = c.args in other_port a.host a.frame.now a.packets.now a.streams.now a.number c.if-number-gt2.true

pub returns-in_default : goal.returns-in_default
returns-in_default c =
    let by_command_lem : (v : (Result KissCommand KissError)) → c.command.result ≡ v → by_command v c.args.number c.args.host c.args.frame.now c.args.packets.now c.args.streams.now ≡ obeyed_on c.args.number c.args.host c.args.frame.now c.args.packets.now c.args.streams.now = λ v t. let a = c.args in command_as a.host a.frame.now a.packets.now a.streams.now a.number v c.if-number-gt2.false c.command.ensures t in
    by_command_lem (Err _) c.in_default.is

pub returns-in-DataFrame : goal.returns-in-DataFrame
returns-in-DataFrame c =
    let by_command_lem : (v : (Result KissCommand KissError)) → c.command.result ≡ v → by_command v c.args.number c.args.host c.args.frame.now c.args.packets.now c.args.streams.now ≡ obeyed_on c.args.number c.args.host c.args.frame.now c.args.packets.now c.args.streams.now = λ v t. let a = c.args in command_as a.host a.frame.now a.packets.now a.streams.now a.number v c.if-number-gt2.false c.command.ensures t in
    c.take_data.ensures ∙ by_command_lem (Ok DataFrame) (c.in-Ok.is ∙ ap Ok c.in-DataFrame.is)

pub returns-in-TxDelay : goal.returns-in-TxDelay
returns-in-TxDelay c =
    let by_command_lem : (v : (Result KissCommand KissError)) → c.command.result ≡ v → by_command v c.args.number c.args.host c.args.frame.now c.args.packets.now c.args.streams.now ≡ obeyed_on c.args.number c.args.host c.args.frame.now c.args.packets.now c.args.streams.now = λ v t. let a = c.args in command_as a.host a.frame.now a.packets.now a.streams.now a.number v c.if-number-gt2.false c.command.ensures t in
    let a = c.args in
    (λ t. (c.set_tx_delay.ensures t, a.packets.now, a.streams.now)) ∙ by_command_lem (Ok TxDelay) (c.in-Ok.is ∙ ap Ok c.in-TxDelay.is)

pub returns-in-P : goal.returns-in-P
returns-in-P c =
    let by_command_lem : (v : (Result KissCommand KissError)) → c.command.result ≡ v → by_command v c.args.number c.args.host c.args.frame.now c.args.packets.now c.args.streams.now ≡ obeyed_on c.args.number c.args.host c.args.frame.now c.args.packets.now c.args.streams.now = λ v t. let a = c.args in command_as a.host a.frame.now a.packets.now a.streams.now a.number v c.if-number-gt2.false c.command.ensures t in
    by_command_lem (Ok P) (c.in-Ok.is ∙ ap Ok c.in-P.is)

pub returns-in-FullDuplex : goal.returns-in-FullDuplex
returns-in-FullDuplex c =
    let by_command_lem : (v : (Result KissCommand KissError)) → c.command.result ≡ v → by_command v c.args.number c.args.host c.args.frame.now c.args.packets.now c.args.streams.now ≡ obeyed_on c.args.number c.args.host c.args.frame.now c.args.packets.now c.args.streams.now = λ v t. let a = c.args in command_as a.host a.frame.now a.packets.now a.streams.now a.number v c.if-number-gt2.false c.command.ensures t in
    let a = c.args in
    (λ t. (c.set_full_duplex.ensures t, a.packets.now, a.streams.now)) ∙ by_command_lem (Ok FullDuplex) (c.in-Ok.is ∙ ap Ok c.in-FullDuplex.is)
