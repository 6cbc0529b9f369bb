-- `event_block::step` meets its contract. Assumes nothing.
use Rattle.std.proofs.Common.{◌≤◌, sym}
use lib.ListN.{length}
use lib.Seq.{length-take-le}
use Rattle.event_step.specs.Step.{world_of}
use Rattle.event_block.proofs.Turns.{within, step_is}
use Rattle.event_block.proofs.step.Goals as goal

pub slice_bounds-put_line-end : goal.slice_bounds-put_line-end
slice_bounds-put_line-end c =
    let shown_within : c.min-count.result ≤ length c.apply-done.new.bytes = let a = c.args in within a.kind a.body.now (world_of a.before a.reader.now a.packets.now a.streams.now a.rx.now a.message.now) a.bytes.now c.apply-done.result c.apply-done.new.reader c.apply-done.new.packets c.apply-done.new.streams c.apply-done.new.rx c.apply-done.new.message c.apply-done.new.bytes a.dst.now a.at c.apply-done.ensures c.min-count.result c.min-count.ensures c.apply-done.auto.bytes in
    shown_within

pub slice_bounds-put_line-end-2 : goal.slice_bounds-put_line-end-2
slice_bounds-put_line-end-2 c =
    let shown_within : c.min-count.result ≤ length c.apply-done.new.bytes = let a = c.args in within a.kind a.body.now (world_of a.before a.reader.now a.packets.now a.streams.now a.rx.now a.message.now) a.bytes.now c.apply-done.result c.apply-done.new.reader c.apply-done.new.packets c.apply-done.new.streams c.apply-done.new.rx c.apply-done.new.message c.apply-done.new.bytes a.dst.now a.at c.apply-done.ensures c.min-count.result c.min-count.ensures c.apply-done.auto.bytes in
    sym (length-take-le _ _ (shown_within))

pub returns : goal.returns
returns c =
    let a = c.args in step_is a.kind a.body.now (world_of a.before a.reader.now a.packets.now a.streams.now a.rx.now a.message.now) a.bytes.now c.apply-done.result c.apply-done.new.reader c.apply-done.new.packets c.apply-done.new.streams c.apply-done.new.rx c.apply-done.new.message c.apply-done.new.bytes a.dst.now a.at c.apply-done.ensures c.put_line-line.result _ c.min-count.result _ c.min-count.ensures c.put_line-line.ensures c.place_after.ensures

pub shape_of-dst : goal.shape_of-dst
shape_of-dst c = c.put_line-line.auto.dst

pub shape_of-reader : goal.shape_of-reader
shape_of-reader c = c.apply-done.auto.reader

pub shape_of-packets : goal.shape_of-packets
shape_of-packets c = c.apply-done.auto.packets

pub shape_of-streams : goal.shape_of-streams
shape_of-streams c = c.apply-done.auto.streams

pub shape_of-rx : goal.shape_of-rx
shape_of-rx c = c.apply-done.auto.rx

pub shape_of-message : goal.shape_of-message
shape_of-message c = c.apply-done.auto.message

pub shape_of-bytes : goal.shape_of-bytes
shape_of-bytes c = c.apply-done.auto.bytes
