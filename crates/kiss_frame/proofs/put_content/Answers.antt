-- `kiss_frame::put_content` meets its contract. The lent part, once it is back, is a run of stores in the whole (`lent_over`). Assumes nothing.
use Rattle.std.proofs.Common.{ℕ, ◌-◌, ◌≤◌, ◌≡◌, List, Result, Ok, ap, ◌∙◌, arith}
use Rattle.std.proofs.lemmas.Grind.{common_steps}
use borrow.Rule.Slice.PartMut.{mid_of, put_mid}
use lib.ListN.{length, length-take, length-drop}
use lib.Seq.{sets}
use Rattle.room.specs.declared.NoRoom.{NoRoom}
use Rattle.room.proofs.Parts.{lent_over}
use Rattle.kiss_layout.specs.Escape.{esc}
use Rattle.kiss_layout.proofs.Escapes.{escaped_in, escaped-yes}
use Rattle.kiss_frame.proofs.put_content.Goals as goal

pub unwrap-requires : goal.unwrap-requires
unwrap-requires c =
    let src : List ℕ = c.args.src.now in
    let k : ℕ = length c.args.room.now - c.args.at in
    let part : length (esc src) ≤ length (mid_of c.args.at k c.args.room.now) = simp (length-take, length-drop) (omega arith) in
    let told : c.escape.result ≡ Ok (length (esc src)) = ap (λ (p : Result ℕ NoRoom × List ℕ). p.0) (c.escape.ensures ∙ escaped-yes src _ part) in
    rw told

pub returns : goal.returns
returns c =
    let src : List ℕ = c.args.src.now in
    let room : List ℕ = c.args.room.now in
    let at : ℕ = c.args.at in
    let k : ℕ = length room - at in
    let part : length (esc src) ≤ length (mid_of at k room) = simp (length-take, length-drop) (omega arith) in
    let told : c.escape.result ≡ Ok (length (esc src)) = ap (λ (p : Result ℕ NoRoom × List ℕ). p.0) (c.escape.ensures ∙ escaped-yes src _ part) in
    let back : put_mid at k room c.escape.new.dst ≡ sets room at (esc src) = ap (put_mid at k room) (escaped_in src (mid_of at k room) c.escape.ensures part) ∙ lent_over at k room (esc src) (omega arith) (omega arith) in
    (grind (arith, common_steps), back)
