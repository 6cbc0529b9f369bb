-- `event_input::body_len` meets its contract. Assumes nothing.
use Rattle.choice.specs.Pick.{pick, tests}
use Rattle.event_input.specs.Events.{body_len}
use Rattle.event_input.proofs.body_len.Goals as goal

pub returns-in-1 : goal.returns-in-1
unfolding body_len pick
returns-in-1 c = rw c.in-1.is

pub returns-in-2 : goal.returns-in-2
unfolding body_len pick
returns-in-2 c = rw c.in-2.is

pub returns-in-3 : goal.returns-in-3
unfolding body_len pick
returns-in-3 c = rw c.in-3.is

pub returns-in-4 : goal.returns-in-4
unfolding body_len pick
returns-in-4 c = rw c.in-4.is

pub returns-in-5 : goal.returns-in-5
unfolding body_len pick
returns-in-5 c = rw c.in-5.is

pub returns-in-6 : goal.returns-in-6
unfolding body_len pick
returns-in-6 c = rw c.in-6.is

pub returns-in-7 : goal.returns-in-7
unfolding body_len pick
returns-in-7 c = rw c.in-7.is

pub returns-in-9 : goal.returns-in-9
unfolding body_len pick
returns-in-9 c = rw c.in-9.is

pub returns-in_default : goal.returns-in_default
unfolding body_len
returns-in_default c = search tests depth 14
