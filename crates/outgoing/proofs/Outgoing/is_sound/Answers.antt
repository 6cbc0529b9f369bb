-- `outgoing::Outgoing::is_sound` meets its contract. Assumes nothing.
use Rattle.std.proofs.Common.{◌∙◌}
use borrow.Author.Tests.{lt-leb}
use Rattle.choice.specs.Pick.{tests, and_no}
use Rattle.outgoing.specs.Message.{sound_message}
use Rattle.outgoing.proofs.Outgoing.is_sound.Goals as goal

pub returns-then-self : goal.returns-then-self
unfolding sound_message
returns-then-self c = search tests

pub returns-else-self : goal.returns-else-self
unfolding sound_message
returns-else-self c = let n = lt-leb _ _ c.if-self.false in n ∙ and_no _ n
