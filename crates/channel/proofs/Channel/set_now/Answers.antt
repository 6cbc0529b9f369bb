-- `channel::Channel::set_now` meets its contract. Assumes nothing.
use Rattle.std.proofs.Common.{sym, ◌∙◌}
use Rattle.choice.specs.Pick.{callees}
use Rattle.channel.specs.Access.{clock_set}
use Rattle.channel.proofs.Clock.{in_range, unsound}
use Rattle.channel.proofs.Channel.set_now.Goals.{else-is_sound-via-then-is_sound+else-now_samples-gt-LAST, else-is_sound-via-else-is_sound}
use Rattle.channel.proofs.Channel.set_now.Goals as goal

pub returns-then-now_samples-gt-LAST : goal.returns-then-now_samples-gt-LAST
unfolding clock_set
returns-then-now_samples-gt-LAST c = search callees

pub returns : goal.returns
returns c =
    let a = c.args in
    c.set_to.ensures
    ∙ elim c.else-is_sound.branch [
      | else-is_sound-via-then-is_sound+else-now_samples-gt-LAST w ↦ in_range a.self a.now_samples w.if-now_samples-gt-LAST.false
      | else-is_sound-via-else-is_sound w ↦ unsound a.self a.now_samples (sym c.is_sound.ensures ∙ w.if-is_sound.false)
    ]
