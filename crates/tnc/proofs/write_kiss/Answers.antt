-- `tnc::write_kiss` meets its contract. Assumes nothing.
use Rattle.std.proofs.Common.{ℕ, ◌≡◌, sym, ap, ◌∙◌, subst}
use mathlib.Core.Bool.{true}
use mathlib.Core.List.{List}
use Rattle.std.specs.Prelude.{Ok}
use Rattle.kiss_calls.specs.declared.Written.{Written}
use Rattle.kiss_calls.specs.Promises.{Sound}
use Rattle.kiss_calls.proofs.Boxes.{write_sound, done_says}
use Rattle.kiss_reader.specs.Reader.{STORE as READER}
use Rattle.packets.specs.Queue.{STORE as PACKETS}
use Rattle.streams.specs.Queue.{STORE as STREAMS}
use Rattle.link_ready.specs.Ready.{link_fits}
use Rattle.link_ready.proofs.Stores.{reader_fits, packets_fit, streams_fit}
use Rattle.tnc_drain.specs.Drain.{reader_box}
use Rattle.tnc.proofs.Cases.{back, stores_wrong, unsound, unsound_channel, host_sound, goes, not_taken}
use Rattle.tnc.proofs.write_kiss.Goals as goal
use Rattle.tnc.proofs.write_kiss.Goals.{then-not-is_sound-via-then-not-is_sound, then-not-is_sound-via-else-not-is_sound+then-not-is_sound-2}

-- what it says that all stores fit
all_fit : (r p q : ℕ) → link_fits r p q ≡ true → (r ≡ READER) × (p ≡ PACKETS) × (q ≡ STREAMS)
all_fit r p q e = (reader_fits r p q e, packets_fit r p q e, streams_fit r p q e)

pub returns-then-not-link_fits : goal.returns-then-not-link_fits
returns-then-not-link_fits c =
    let a = c.args in
    stores_wrong a.tnc a.channel a.buf.now a.reader.now a.packets.now a.streams.now c.not_written.ensures (sym c.link_fits.ensures ∙ c.if-not-link_fits.true)

pub returns-then-not-is_sound : goal.returns-then-not-is_sound
returns-then-not-is_sound c =
    let a = c.args in
    let f = all_fit _ _ _ (sym c.link_fits.ensures ∙ c.if-not-link_fits.false) in
    elim c.then-not-is_sound.branch [
      | then-not-is_sound-via-then-not-is_sound w ↦
          unsound a.tnc a.channel a.buf.now a.reader.now a.packets.now a.streams.now f.0 f.1 f.2
          c.not_written-then-not-is_sound.ensures (sym c.is_sound.ensures ∙ w.if-not-is_sound.true)
      | then-not-is_sound-via-else-not-is_sound+then-not-is_sound-2 w ↦
          unsound_channel a.tnc a.channel a.buf.now a.reader.now a.packets.now a.streams.now f.0 f.1 f.2
          c.not_written-then-not-is_sound.ensures (sym c.is_sound.ensures ∙ w.if-not-is_sound.false) (sym w.is_sound-else-not-is_sound.ensures ∙ w.if-not-is_sound-2.true)
    ]

pub returns-in-Err : goal.returns-in-Err
returns-in-Err c =
    let a = c.args in
    let f = all_fit _ _ _ (sym c.link_fits.ensures ∙ c.if-not-link_fits.false) in
    not_taken a.tnc a.channel a.buf.now a.reader.now a.packets.now a.streams.now f.0 f.1 f.2
    (sym c.is_sound.ensures ∙ c.if-not-is_sound.false) (sym c.is_sound-else-not-is_sound.ensures ∙ c.if-not-is_sound-2.false)
    c.write-written.result c.write-written.new.store c.in-Err.error c.write-written.ensures c.in-Err.is c.not_written-in-Err.ensures

pub take_frames-requires : goal.take_frames-requires
take_frames-requires c =
    let a = c.args in
    let f = all_fit _ _ _ (sym c.link_fits.ensures ∙ c.if-not-link_fits.false) in
    let e = c.write-written.ensures in
    let x = reader_box a.tnc.buffer a.reader.now in
    let still_sound : Sound (reader_box c.write-written.result.buffer c.write-written.new.store) =
    subst Sound (sym (ap (λ (p : Written × List ℕ). reader_box p.0.buffer p.1) e))
    (write_sound x a.buf.now (done_says x a.buf.now (sym (ap (λ (p : Written × List ℕ). p.0.answer) e) ∙ c.in-Ok.is)).0) in (
      still_sound,
      host_sound a.tnc a.channel a.buf.now a.reader.now a.packets.now a.streams.now f.0 f.1 f.2
          (sym c.is_sound.ensures ∙ c.if-not-is_sound.false) (sym c.is_sound-else-not-is_sound.ensures ∙ c.if-not-is_sound-2.false),
    )

pub returns : goal.returns
returns c =
    let a = c.args in
    let f = all_fit _ _ _ (sym c.link_fits.ensures ∙ c.if-not-link_fits.false) in
    (λ j. (c.put_back.ensures j, c.take_frames.new.reader, c.take_frames.new.packets, c.take_frames.new.streams))
    ∙ ap (back a.tnc) c.take_frames.ensures
    ∙ goes a.tnc a.channel a.buf.now a.reader.now a.packets.now a.streams.now f.0 f.1 f.2
    (sym c.is_sound.ensures ∙ c.if-not-is_sound.false) (sym c.is_sound-else-not-is_sound.ensures ∙ c.if-not-is_sound-2.false)
    (Ok c.in-Ok.count) c.write-written.result c.write-written.new.store c.write-written.ensures c.in-Ok.is
