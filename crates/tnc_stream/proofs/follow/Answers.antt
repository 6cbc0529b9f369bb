-- `tnc_stream::follow` meets its contract. Assumes nothing.
use Rattle.std.proofs.Common.{◌+◌, ◌≡◌, ap, ◌∙◌, rules}
use lib.ListN.{length}
use Rattle.choice.specs.Pick.{pick}
use Rattle.kiss_layout.specs.Build.{stream_data}
use Rattle.state.specs.declared.State.{State}
use Rattle.state.specs.declared.State.TheVariants.{Idle, RxStream}
use Rattle.radio.proofs.Messages.{data_accepted}
use Rattle.radio_told.proofs.Tells.{told}
use Rattle.tnc_stream.specs.Followed.{behind}
use Rattle.tnc_stream.proofs.Follows.{backward, forward}
use Rattle.tnc_stream.proofs.follow.Goals as goal
use Rattle.tnc_stream.proofs.follow.Goals.{then-frame, else-frame}

pub returns-then-frame-expected : goal.returns-then-frame-expected
returns-then-frame-expected c =
    let a = c.args in
    backward a.radio a.frame a.rx.now a.out.now a.expected c.restart.ensures c.if-frame-expected.true

pub returns : goal.returns
unfolding pick
returns c =
    let five : length c.args.frame.lich_part ≡ 5 = search rules in
    let sixteen : length c.args.frame.stream_data ≡ 16 = search rules in
    let a = c.args in let f = a.frame in let s = c.if-frame.next in
    let next : behind f ≡ s = elim c.if-frame.branch [ then-frame w ↦ rw (w.next-is, w.if-frame.true) | else-frame w ↦ rw (w.next-is, w.if-frame.false) ] in
    forward a.radio f a.rx.now a.out.now a.expected s
    (told s (stream_data f) a.out.now _ _ _ (data_accepted f five sixteen c.requires.0 c.requires.1) c.requires.3 c.new_stream_data.ensures c.told.ensures) next c.if-frame-expected.false
