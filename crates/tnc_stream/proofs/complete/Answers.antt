-- `tnc_stream::complete` meets its contract. Assumes nothing.
use Rattle.std.proofs.Common.{◌≡◌, ap, ◌∙◌, rules}
use Rattle.std.specs.Prelude.{Ok, None}
use lib.ListN.{length}
use Rattle.tnc_stream.proofs.Assemblies.{answered_as, wrong_crc, right_crc}
use Rattle.tnc_stream.proofs.complete.Goals as goal
use Rattle.tnc_stream.proofs.complete.Goals.{in_default-via-in-Ok-Some+else-check_crc-eq0, in_default-via-in-Ok+in_default, in_default-via-in_default}

pub returns-in-Ok-Some : goal.returns-in-Ok-Some
returns-in-Ok-Some c =
    let thirty : length c.args.collection.segments ≡ 30 = search rules in
    let a = c.args in let lsf = c.in-Ok-Some.lsf in
    right_crc a.radio a.collection a.number a.out.now lsf c.told.ensures c.new_stream_setup.ensures c.check_crc.ensures c.if-check_crc-eq0.true
    ∙ answered_as a.radio a.collection a.number a.out.now c.requires.0 thirty c.requires.2 c.try_assemble.ensures (c.in-Ok-Some.is ∙ ap Ok c.in-Ok-Some.field-0-is)

pub returns-in_default : goal.returns-in_default
returns-in_default c =
    let thirty : length c.args.collection.segments ≡ 30 = search rules in
    let a = c.args in
    elim c.in_default.branch [
      | in_default-via-in-Ok-Some+else-check_crc-eq0 w ↦
          wrong_crc a.radio a.collection a.number a.out.now w.in-Ok-Some.lsf c.turned.ensures w.check_crc.ensures w.if-check_crc-eq0.false
          ∙ answered_as a.radio a.collection a.number a.out.now c.requires.0 thirty c.requires.2 c.try_assemble.ensures (w.in-Ok-Some.is ∙ ap Ok w.in-Ok-Some.field-0-is)
      | in_default-via-in-Ok+in_default w ↦
          let none : c.try_assemble.result ≡ Ok None = search rules in
          (λ t. (c.turned.ensures t, a.out.now)) ∙ answered_as a.radio a.collection a.number a.out.now c.requires.0 thirty c.requires.2 c.try_assemble.ensures none
      | in_default-via-in_default w ↦
          (λ t. (c.turned.ensures t, a.out.now)) ∙ answered_as a.radio a.collection a.number a.out.now c.requires.0 thirty c.requires.2 c.try_assemble.ensures w.in_default.is
    ]
