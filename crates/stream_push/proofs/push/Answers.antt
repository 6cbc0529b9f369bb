-- `stream_push::push` meets its contract. Assumes nothing.
use Rattle.std.proofs.Common.{◌≡◌, sym, ◌∙◌, arith}
use mathlib.Core.Bool.{true}
use lib.ListN.{length}
use Rattle.std.specs.Prelude.{Err, Ok}
use Rattle.streams.specs.Queue.{sound_queue, STORE}
use Rattle.streams.proofs.Cases.{pushed-decoded, payload_short, payload_data, payload_lsf}
use Rattle.stream_push.proofs.Refused.{pushed_wrong, pushed_unsound}
use Rattle.stream_push.proofs.push.Goals as goal

pub returns-then-store-ne-STREAM_STORE_LEN : goal.returns-then-store-ne-STREAM_STORE_LEN
returns-then-store-ne-STREAM_STORE_LEN c = pushed_wrong c.args.queue c.args.frame.now c.args.store.now c.if-store-ne-STREAM_STORE_LEN.true

pub returns-then-not-is_sound : goal.returns-then-not-is_sound
returns-then-not-is_sound c = pushed_unsound c.args.queue c.args.frame.now c.args.store.now c.if-store-ne-STREAM_STORE_LEN.false (sym c.is_sound.ensures ∙ c.if-not-is_sound.true)

pub returns-in_default : goal.returns-in_default
returns-in_default c =
    let a = c.args in
    let whole : length a.store.now ≡ STORE = c.if-store-ne-STREAM_STORE_LEN.false in
    let sound : sound_queue a.queue ≡ true = sym c.is_sound.ensures ∙ c.if-not-is_sound.false in
    pushed-decoded a.queue a.frame.now a.store.now whole sound _ c.decode_payload.ensures (Err _) c.in_default.is

pub returns-in-0-to-25 : goal.returns-in-0-to-25
returns-in-0-to-25 c =
    let a = c.args in
    let whole : length a.store.now ≡ STORE = c.if-store-ne-STREAM_STORE_LEN.false in
    let sound : sound_queue a.queue ≡ true = sym c.is_sound.ensures ∙ c.if-not-is_sound.false in
    payload_short _ a.queue c.decode_payload.new.out a.store.now (omega arith) ∙ pushed-decoded a.queue a.frame.now a.store.now whole sound _ c.decode_payload.ensures (Ok _) c.in-Ok.is

pub returns-in-26-to-29 : goal.returns-in-26-to-29
returns-in-26-to-29 c =
    let a = c.args in
    let whole : length a.store.now ≡ STORE = c.if-store-ne-STREAM_STORE_LEN.false in
    let sound : sound_queue a.queue ≡ true = sym c.is_sound.ensures ∙ c.if-not-is_sound.false in
    c.push_data.ensures ∙ payload_data _ a.queue c.decode_payload.new.out a.store.now (omega arith) (omega arith) ∙ pushed-decoded a.queue a.frame.now a.store.now whole sound _ c.decode_payload.ensures (Ok _) c.in-Ok.is

pub returns-in_default-n : goal.returns-in_default-n
returns-in_default-n c =
    let a = c.args in
    let whole : length a.store.now ≡ STORE = c.if-store-ne-STREAM_STORE_LEN.false in
    let sound : sound_queue a.queue ≡ true = sym c.is_sound.ensures ∙ c.if-not-is_sound.false in
    c.push_lsf.ensures ∙ payload_lsf _ a.queue c.decode_payload.new.out a.store.now (omega arith) ∙ pushed-decoded a.queue a.frame.now a.store.now whole sound _ c.decode_payload.ensures (Ok _) c.in-Ok.is
