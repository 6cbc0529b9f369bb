-- `stream_read::read_next` meets its contract. Assumes nothing.
use Rattle.std.proofs.Common.{◌≡◌, sym, ◌∙◌, ap, rules}
use mathlib.Core.Bool.{false≢true}
use Rattle.std.specs.Result.{is_ok}
use lib.ListN.{length}
use Rattle.streams.specs.Queue.{STORE, lsf_read, frame_read}
use Rattle.streams.proofs.Cases.{read_wrong, read_unsound, read_empty, read_lsf, read_frame}
use Rattle.stream_read.proofs.read_next.Goals as goal

pub returns-in_default : goal.returns-in_default
returns-in_default c = read_wrong c.args.queue c.args.store.now (λ l. false≢true (sym (ap is_ok c.in_default.is) ∙ c.try_from.ensures.0 l))

pub returns-then-not-is_sound : goal.returns-then-not-is_sound
returns-then-not-is_sound c =
    let whole : length c.args.store.now ≡ STORE = search rules in
    read_unsound c.args.queue c.args.store.now whole (sym c.is_sound.ensures ∙ c.if-not-is_sound.true)

pub returns-then-is_empty : goal.returns-then-is_empty
returns-then-is_empty c =
    let whole : length c.args.store.now ≡ STORE = search rules in
    read_empty c.args.queue c.args.store.now whole (sym c.is_sound.ensures ∙ c.if-not-is_sound.false) (sym c.is_empty.ensures ∙ c.if-is_empty.true)

pub returns-then-queue : goal.returns-then-queue
returns-then-queue c =
    let whole : length c.args.store.now ≡ STORE = search rules in
    let read : c.read_lsf.result ≡ lsf_read c.args.queue c.args.store.now = search rules in
    read ∙ read_lsf c.args.queue c.args.store.now whole (sym c.is_sound.ensures ∙ c.if-not-is_sound.false) (sym c.is_empty.ensures ∙ c.if-is_empty.false) c.if-queue.true

pub returns : goal.returns
returns c =
    let whole : length c.args.store.now ≡ STORE = search rules in
    let read : c.read_frame.result ≡ frame_read c.args.queue c.args.store.now = search rules in
    read ∙ read_frame c.args.queue c.args.store.now whole (sym c.is_sound.ensures ∙ c.if-not-is_sound.false) (sym c.is_empty.ensures ∙ c.if-is_empty.false) c.if-queue.false
