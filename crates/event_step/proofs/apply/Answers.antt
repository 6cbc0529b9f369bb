-- `event_step::apply` meets its contract. Assumes nothing.
use Rattle.std.proofs.Common.{◌≡◌, refl}
use Rattle.std.specs.Prelude.{None}
use Rattle.choice.specs.Pick.{tests}
use Rattle.event_step.specs.Step.{call_of}
use Rattle.event_step.proofs.Events.{small, unknown, on_host, on_carrier, on_clock_lem, on_end, on_lsf, on_packet, on_stream, on_tx, on_read}
use Rattle.event_step.proofs.apply.Goals as goal

pub returns-then-bytes-lt-MOST_BYTES : goal.returns-then-bytes-lt-MOST_BYTES
returns-then-bytes-lt-MOST_BYTES c = let a = c.args in small a.before a.kind a.body.now a.reader.now a.packets.now a.streams.now a.rx.now a.message.now a.bytes.now c.refuse.result c.refuse.ensures c.if-bytes-lt-MOST_BYTES.true

pub returns-in-1 : goal.returns-in-1
returns-in-1 c = let a = c.args in on_host a.before a.kind a.body.now a.reader.now a.packets.now a.streams.now a.rx.now a.message.now a.bytes.now c.if-bytes-lt-MOST_BYTES.false c.in-1.is c.host_byte.ensures

pub returns-in-2 : goal.returns-in-2
returns-in-2 c = let a = c.args in on_carrier a.before a.kind a.body.now a.reader.now a.packets.now a.streams.now a.rx.now a.message.now a.bytes.now c.if-bytes-lt-MOST_BYTES.false c.in-2.is c.carrier.ensures

pub returns-in-3 : goal.returns-in-3
returns-in-3 c = let a = c.args in on_clock_lem a.before a.kind a.body.now a.reader.now a.packets.now a.streams.now a.rx.now a.message.now a.bytes.now c.if-bytes-lt-MOST_BYTES.false c.in-3.is c.clock.ensures

pub returns-in-4 : goal.returns-in-4
returns-in-4 c = let a = c.args in on_end a.before a.kind a.body.now a.reader.now a.packets.now a.streams.now a.rx.now a.message.now a.bytes.now c.if-bytes-lt-MOST_BYTES.false c.in-4.is c.end_time.ensures

pub returns-in-5 : goal.returns-in-5
returns-in-5 c = let a = c.args in on_lsf a.before a.kind a.body.now a.reader.now a.packets.now a.streams.now a.rx.now a.message.now a.bytes.now c.if-bytes-lt-MOST_BYTES.false c.in-5.is c.lsf.ensures

pub returns-in-6 : goal.returns-in-6
returns-in-6 c = let a = c.args in on_packet a.before a.kind a.body.now a.reader.now a.packets.now a.streams.now a.rx.now a.message.now a.bytes.now c.if-bytes-lt-MOST_BYTES.false c.in-6.is c.packet.ensures

pub returns-in-7 : goal.returns-in-7
returns-in-7 c = let a = c.args in on_stream a.before a.kind a.body.now a.reader.now a.packets.now a.streams.now a.rx.now a.message.now a.bytes.now c.if-bytes-lt-MOST_BYTES.false c.in-7.is c.stream.ensures

pub returns-in-8 : goal.returns-in-8
returns-in-8 c = let a = c.args in on_tx a.before a.kind a.body.now a.reader.now a.packets.now a.streams.now a.rx.now a.message.now a.bytes.now c.if-bytes-lt-MOST_BYTES.false c.in-8.is c.read_tx.ensures

pub returns-in-9 : goal.returns-in-9
returns-in-9 c = let a = c.args in on_read a.before a.kind a.body.now a.reader.now a.packets.now a.streams.now a.rx.now a.message.now a.bytes.now c.if-bytes-lt-MOST_BYTES.false c.in-9.is c.read_host.ensures

pub returns-in_default : goal.returns-in_default
unfolding call_of
returns-in_default c =
    let a = c.args in
    let none-of-them : None ≡ call_of a.kind a.body.now a.bytes.now = search tests depth 14 in
    unknown a.before a.kind a.body.now a.reader.now a.packets.now a.streams.now a.rx.now a.message.now a.bytes.now c.refuse-in_default.result c.refuse-in_default.ensures c.if-bytes-lt-MOST_BYTES.false none-of-them

pub shape_of-reader : goal.shape_of-reader
shape_of-reader c = c.host_byte.auto.reader

pub shape_of-packets-in-1 : goal.shape_of-packets-in-1
shape_of-packets-in-1 c = c.host_byte.auto.packets

pub shape_of-streams-in-1 : goal.shape_of-streams-in-1
shape_of-streams-in-1 c = c.host_byte.auto.streams

pub shape_of-rx-in-5 : goal.shape_of-rx-in-5
shape_of-rx-in-5 c = c.lsf.auto.rx

pub shape_of-message-in-5 : goal.shape_of-message-in-5
shape_of-message-in-5 c = c.lsf.auto.message

pub shape_of-rx-in-6 : goal.shape_of-rx-in-6
shape_of-rx-in-6 c = c.packet.auto.rx

pub shape_of-message-in-6 : goal.shape_of-message-in-6
shape_of-message-in-6 c = c.packet.auto.message

pub shape_of-rx-in-7 : goal.shape_of-rx-in-7
shape_of-rx-in-7 c = c.stream.auto.rx

pub shape_of-message-in-7 : goal.shape_of-message-in-7
shape_of-message-in-7 c = c.stream.auto.message

pub shape_of-packets-in-8 : goal.shape_of-packets-in-8
shape_of-packets-in-8 c = refl

pub shape_of-streams-in-8 : goal.shape_of-streams-in-8
shape_of-streams-in-8 c = refl

pub shape_of-bytes-in-8 : goal.shape_of-bytes-in-8
shape_of-bytes-in-8 c = c.read_tx.auto.bytes

pub shape_of-message-in-9 : goal.shape_of-message-in-9
shape_of-message-in-9 c = refl

pub shape_of-bytes-in-9 : goal.shape_of-bytes-in-9
shape_of-bytes-in-9 c = c.read_host.auto.bytes
