-- `event_input::next_event` meets its contract. Assumes nothing.
use Rattle.event_input.proofs.Known.{known-low, known-high, known-yes, is_end, is_unknown, is_cut, is_complete}
use Rattle.event_input.proofs.next_event.Goals as goal
use Rattle.event_input.proofs.next_event.Goals.{then-kind-lt-FIRST_KIND-via-then-kind-lt-FIRST_KIND, then-kind-lt-FIRST_KIND-via-else-kind-lt-FIRST_KIND+then-kind-gt-LAST_KIND}

pub returns-then-src-at : goal.returns-then-src-at
returns-then-src-at c = let a = c.args in is_end a.src.now a.at c.if-src-at.true

pub returns-then-kind-lt-FIRST_KIND : goal.returns-then-kind-lt-FIRST_KIND
returns-then-kind-lt-FIRST_KIND c =
    let a = c.args in
    elim c.then-kind-lt-FIRST_KIND.branch [
      | then-kind-lt-FIRST_KIND-via-then-kind-lt-FIRST_KIND w ↦ is_unknown a.src.now a.at c.if-src-at.false (known-low w.if-kind-lt-FIRST_KIND.true)
      | then-kind-lt-FIRST_KIND-via-else-kind-lt-FIRST_KIND+then-kind-gt-LAST_KIND w ↦ is_unknown a.src.now a.at c.if-src-at.false (known-high w.if-kind-lt-FIRST_KIND.false w.if-kind-gt-LAST_KIND.true)
    ]

pub returns-then-src-start : goal.returns-then-src-start
returns-then-src-start c =
    let a = c.args in
    is_cut a.src.now a.at c.if-src-at.false (known-yes c.if-kind-lt-FIRST_KIND.false c.if-kind-gt-LAST_KIND.false) c.body_len-len.ensures c.if-src-start.true

pub returns : goal.returns
returns c =
    let a = c.args in
    is_complete a.src.now a.at c.if-src-at.false (known-yes c.if-kind-lt-FIRST_KIND.false c.if-kind-gt-LAST_KIND.false) c.body_len-len.ensures c.if-src-start.false
