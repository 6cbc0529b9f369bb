-- `packet_read::read_next` meets its contract. Assumes nothing.
use Rattle.std.proofs.Common.{◌≡◌, sym, ◌∙◌, ap, rules}
use mathlib.Core.Bool.{false≢true}
use Rattle.std.specs.Result.{is_ok}
use lib.ListN.{length}
use Rattle.packets.specs.Queue.{STORE, walk}
use Rattle.packets.proofs.Cases.{read_wrong, read_unsound, read_empty, read_walks}
use Rattle.packet_read.proofs.read_next.Goals as goal

pub returns-in_default : goal.returns-in_default
returns-in_default c = read_wrong c.args.queue c.args.store.now (λ l. false≢true (sym (ap is_ok c.in_default.is) ∙ c.try_from.ensures.0 l))

pub returns-then-not-is_sound : goal.returns-then-not-is_sound
returns-then-not-is_sound c =
    let whole : length c.args.store.now ≡ STORE = search rules in
    read_unsound c.args.queue c.args.store.now whole (sym c.is_sound.ensures ∙ c.if-not-is_sound.true)

pub returns-then-is_empty : goal.returns-then-is_empty
returns-then-is_empty c =
    let whole : length c.args.store.now ≡ STORE = search rules in
    read_empty c.args.queue c.args.store.now whole (sym c.is_sound.ensures ∙ c.if-not-is_sound.false) (sym c.is_empty.ensures ∙ c.if-is_empty.true)

pub returns : goal.returns
returns c =
    let whole : length c.args.store.now ≡ STORE = search rules in
    let walked : c.next_frame.result ≡ walk 4 c.args.queue c.args.store.now = search rules in
    walked ∙ read_walks c.args.queue c.args.store.now whole (sym c.is_sound.ensures ∙ c.if-not-is_sound.false) (sym c.is_empty.ensures ∙ c.if-is_empty.false)
