-- `kiss_escape::put_escaped` meets its contract. The loop's invariant says what is left to do: storing what src from the loop's block on is escaped to, from j on, gives what storing all of it from 0 on gave at the start. Assumes nothing.
use Rattle.std.proofs.Common.{◌*◌, ◌/◌, ◌<◌, ◌≡◌, ap, sym, ◌∙◌, arith}
use lib.ListN.{length, drop}
use lib.Seq.{sets}
use Rattle.room.proofs.Runs.{put_front}
use Rattle.kiss_layout.specs.Escape.{esc}
use Rattle.kiss_escape.proofs.Plain.{block-length, block_put}
use Rattle.kiss_escape.proofs.put_escaped.Goals as goal

pub put_block-j-requires : goal.put_block-j-requires
put_block-j-requires c =
    let chunks = c.as_chunks.ensures in let k = c.loop-block.block-index in
    omega (arith, block-length c.args.src.now _ k chunks.front (omega (arith, chunks.front_len)))

pub loop-block-preserved : goal.loop-block-preserved
loop-block-preserved c =
    let chunks = c.as_chunks.ensures in let k = c.loop-block.block-index in let s = c.args.src.now in
    let below : k < length s / 16 = omega (arith, chunks.front_len) in (
      c.put_block-j.auto.dst ∙ c.loop-block.invariant.0,
      omega (arith, c.put_block-j.ensures.0, block-length s _ k chunks.front below),
      block_put s _ k chunks.front below c.loop-block.dst c.loop-block.j c.put_block-j.ensures.1 c.put_block-j.ensures.0 c.loop-block.invariant.2,
    )

pub returns : goal.returns
returns c =
    let chunks = c.as_chunks.ensures in let a = c.args in
    let at_end : c.loop-block.block-index ≡ length a.src.now / 16 = omega (arith, chunks.front_len, c.loop-block.auto.block-index-end) in
    let rest : c.as_chunks.result.1.now ≡ drop (c.loop-block.block-index * 16) a.src.now = chunks.back ∙ ap (λ n. drop (n * 16) a.src.now) (sym at_end) in (
      omega (arith, c.put_each.ensures.0, ap (λ l. length (esc l)) rest),
      c.put_each.ensures.1 ∙ ap (λ l. sets c.loop-block.dst c.loop-block.j (esc l)) rest ∙ c.loop-block.invariant.2 ∙ put_front a.dst.now (esc a.src.now) c.requires,
    )
