-- `event_block::run_block` meets its contract. Assumes nothing.
use borrow.Enum.Refused.{opened as key_of}
use types.Run.{OneOf, miss}
use denote.Enum.Declared.{tag_of}
use Rattle.std.proofs.Common.{◌≤◌, ◌≡◌, refl, sym, ap, ◌∙◌, arith}
use mathlib.Core.Bool.{false}
use mathlib.Core.List.{[], ◌∷◌}
use borrow.Author.Tests.{le-leb, lt-leb}
use lib.ListN.{length}
use Rattle.choice.specs.Pick.{pick_yes, pick_no}
use Rattle.event_input.specs.contracts.Next.{the_type}
use Rattle.event_input.specs.declared.Next.{Next}
use Rattle.event_input.specs.declared.Next.TheVariants.{Complete, Cut, Unknown, End}
use Rattle.event_input.specs.Promises.{Whole}
use Rattle.event_input.proofs.Kept.{complete_is_whole}
use Rattle.event_answer.specs.Answer.{MOST}
use Rattle.event_step.specs.Step.{world_of}
use Rattle.event_block.specs.Spot.{Spot, spot}
use Rattle.event_block.specs.Block.{block_run}
use Rattle.event_block.proofs.Blocks.{steps_most, walk-full, stops, is_whole, on}
use Rattle.event_open.proofs.Runs.{open_bounds}
use Rattle.event_block.proofs.Opens.{open_walks}
use Rattle.event_block.proofs.run_block.Goals as goal

other : (r : Next) → OneOf (1 ∷ 2 ∷ 3 ∷ []) (tag_of the_type r) → is_whole r ≡ false
unfolding is_whole
other (Complete k a e) h = absurd (miss (1 ∷ 2 ∷ 3 ∷ []) 0 tt h)
other (Cut k) h = refl
other (Unknown k) h = refl
other End h = refl

pub returns-then-bytes-lt-MOST_BYTES : goal.returns-then-bytes-lt-MOST_BYTES
unfolding block_run
returns-then-bytes-lt-MOST_BYTES c = record {
  wrote_after = pick_no _ (lt-leb MOST (length c.args.bytes.now) c.if-bytes-lt-MOST_BYTES.true) refl;
  used_in_bounds = (omega arith, omega arith);
}

pub slice_bounds-step-count : goal.slice_bounds-step-count
slice_bounds-step-count c =
    let whole : Whole c.args.src.now c.loop-dst.at c.in-Complete.kind c.in-Complete.start c.in-Complete.next = complete_is_whole c.args.src.now c.loop-dst.at _ _ _ (sym c.next_event.ensures ∙ c.in-Complete.is) in
    omega (arith, (whole).ends, (whole).starts, (whole).within)

pub slice_bounds-step-start : goal.slice_bounds-step-start
slice_bounds-step-start c =
    let whole : Whole c.args.src.now c.loop-dst.at c.in-Complete.kind c.in-Complete.start c.in-Complete.next = complete_is_whole c.args.src.now c.loop-dst.at _ _ _ (sym c.next_event.ensures ∙ c.in-Complete.is) in
    omega (arith, (whole).ends, (whole).starts, (whole).within)

pub slice_bounds-step-end : goal.slice_bounds-step-end
slice_bounds-step-end c =
    let whole : Whole c.args.src.now c.loop-dst.at c.in-Complete.kind c.in-Complete.start c.in-Complete.next = complete_is_whole c.args.src.now c.loop-dst.at _ _ _ (sym c.next_event.ensures ∙ c.in-Complete.is) in
    omega (arith, (whole).ends, (whole).starts, (whole).within)

pub loop-dst-smaller : goal.loop-dst-smaller
loop-dst-smaller c =
    let whole : Whole c.args.src.now c.loop-dst.at c.in-Complete.kind c.in-Complete.start c.in-Complete.next = complete_is_whole c.args.src.now c.loop-dst.at _ _ _ (sym c.next_event.ensures ∙ c.in-Complete.is) in
    let spot-at : Spot = spot (world_of c.loop-dst.station c.loop-dst.reader c.loop-dst.packets c.loop-dst.streams c.loop-dst.rx c.loop-dst.message) c.loop-dst.bytes c.loop-dst.dst c.loop-dst.wrote in
    let line_within : c.step-turn.result.wrote ≤ length c.step-turn.new.dst = let room = c.loop-dst-test.true in omega (arith, steps_most _ _ (spot-at) (omega (arith, room, c.loop-dst.invariant.1)) c.step-turn.result.wrote (ap (λ (q : Spot). q.wrote) c.step-turn.ensures), room, c.loop-dst.invariant.1, c.step-turn.auto.dst) in
    let bounds : (c.in-Complete.next ≤ c.take_open-open.result.used) × (c.take_open-open.result.used ≤ length c.args.src.now) × (c.take_open-open.result.wrote ≤ length c.step-turn.new.dst) = open_bounds c.step-turn.result.after c.args.src.now _ c.step-turn.new.dst c.step-turn.result.wrote _ _ _ (whole).within (line_within) c.take_open-open.ensures in
    let w = whole in omega (arith, w.ends, w.within, bounds)

pub loop-dst-preserved : goal.loop-dst-preserved
loop-dst-preserved c =
    let whole : Whole c.args.src.now c.loop-dst.at c.in-Complete.kind c.in-Complete.start c.in-Complete.next = complete_is_whole c.args.src.now c.loop-dst.at _ _ _ (sym c.next_event.ensures ∙ c.in-Complete.is) in
    let spot-at : Spot = spot (world_of c.loop-dst.station c.loop-dst.reader c.loop-dst.packets c.loop-dst.streams c.loop-dst.rx c.loop-dst.message) c.loop-dst.bytes c.loop-dst.dst c.loop-dst.wrote in
    let line_within : c.step-turn.result.wrote ≤ length c.step-turn.new.dst = let room = c.loop-dst-test.true in omega (arith, steps_most _ _ (spot-at) (omega (arith, room, c.loop-dst.invariant.1)) c.step-turn.result.wrote (ap (λ (q : Spot). q.wrote) c.step-turn.ensures), room, c.loop-dst.invariant.1, c.step-turn.auto.dst) in
    let bounds : (c.in-Complete.next ≤ c.take_open-open.result.used) × (c.take_open-open.result.used ≤ length c.args.src.now) × (c.take_open-open.result.wrote ≤ length c.step-turn.new.dst) = open_bounds c.step-turn.result.after c.args.src.now _ c.step-turn.new.dst c.step-turn.result.wrote _ _ _ (whole).within (line_within) c.take_open-open.ensures in
    let src = c.args.src.now in (
      (bounds).1,
      omega (arith, bounds, c.take_open-open.auto.dst),
      c.take_open-open.auto.dst ∙ c.step-turn.auto.dst ∙ c.loop-dst.invariant.2,
      c.take_open-open.auto.reader ∙ c.step-turn.auto.reader ∙ c.loop-dst.invariant.3,
      c.step-turn.auto.packets ∙ c.loop-dst.invariant.4,
      c.step-turn.auto.streams ∙ c.loop-dst.invariant.5,
      c.step-turn.auto.rx ∙ c.loop-dst.invariant.6,
      c.step-turn.auto.message ∙ c.loop-dst.invariant.7,
      c.step-turn.auto.bytes ∙ c.loop-dst.invariant.8,
      open_walks c.step-turn.result.after src _ c.step-turn.new.dst c.step-turn.result.wrote c.step-turn.new.reader c.step-turn.new.packets c.step-turn.new.streams
          c.step-turn.new.rx c.step-turn.new.message c.step-turn.new.bytes
          (omega (arith, c.if-bytes-lt-MOST_BYTES.false, c.step-turn.auto.bytes, c.loop-dst.invariant.8)) c.take_open-open.ensures
          ∙ on src c.loop-dst.at _ _ _ (spot-at) _ (whole) c.loop-dst-test.true c.loop-dst.invariant.1 c.step-turn.ensures
          ∙ c.loop-dst.invariant.9,
    )

pub returns-after-loop-dst : goal.returns-after-loop-dst
unfolding block_run
returns-after-loop-dst c =
    let a = c.args in record {
      wrote_after = pick_yes _ (le-leb MOST (length a.bytes.now) c.if-bytes-lt-MOST_BYTES.false) (walk-full a.src.now c.loop-dst.at (spot (world_of c.loop-dst.station c.loop-dst.reader c.loop-dst.packets c.loop-dst.streams c.loop-dst.rx c.loop-dst.message) c.loop-dst.bytes c.loop-dst.dst c.loop-dst.wrote) c.loop-dst-test.false ∙ c.loop-dst.invariant.9);
      used_in_bounds = (omega (arith, c.loop-dst.invariant.0, c.loop-dst.invariant.1, c.loop-dst.invariant.2), omega (arith, c.loop-dst.invariant.0, c.loop-dst.invariant.1, c.loop-dst.invariant.2));
    }

pub returns-in_default : goal.returns-in_default
unfolding block_run
returns-in_default c =
    let a = c.args in record {
      wrote_after = pick_yes _ (le-leb MOST (length a.bytes.now) c.if-bytes-lt-MOST_BYTES.false) (stops a.src.now c.loop-dst.at (spot (world_of c.loop-dst.station c.loop-dst.reader c.loop-dst.packets c.loop-dst.streams c.loop-dst.rx c.loop-dst.message) c.loop-dst.bytes c.loop-dst.dst c.loop-dst.wrote) (ap is_whole (sym c.next_event.ensures) ∙ other c.next_event.result (key_of c.in_default.in_default-own.keys2)) ∙ c.loop-dst.invariant.9);
      used_in_bounds = (omega (arith, c.loop-dst.invariant.0, c.loop-dst.invariant.1, c.loop-dst.invariant.2), omega (arith, c.loop-dst.invariant.0, c.loop-dst.invariant.1, c.loop-dst.invariant.2));
    }

pub shape_of-dst-after-loop-dst : goal.shape_of-dst-after-loop-dst
shape_of-dst-after-loop-dst c = c.loop-dst.invariant.2

pub shape_of-reader-after-loop-dst : goal.shape_of-reader-after-loop-dst
shape_of-reader-after-loop-dst c = c.loop-dst.invariant.3

pub shape_of-packets-after-loop-dst : goal.shape_of-packets-after-loop-dst
shape_of-packets-after-loop-dst c = c.loop-dst.invariant.4

pub shape_of-streams-after-loop-dst : goal.shape_of-streams-after-loop-dst
shape_of-streams-after-loop-dst c = c.loop-dst.invariant.5

pub shape_of-rx-after-loop-dst : goal.shape_of-rx-after-loop-dst
shape_of-rx-after-loop-dst c = c.loop-dst.invariant.6

pub shape_of-message-after-loop-dst : goal.shape_of-message-after-loop-dst
shape_of-message-after-loop-dst c = c.loop-dst.invariant.7

pub shape_of-bytes-after-loop-dst : goal.shape_of-bytes-after-loop-dst
shape_of-bytes-after-loop-dst c = c.loop-dst.invariant.8

pub shape_of-dst-in_default : goal.shape_of-dst-in_default
shape_of-dst-in_default c = c.loop-dst.invariant.2

pub shape_of-reader-in_default : goal.shape_of-reader-in_default
shape_of-reader-in_default c = c.loop-dst.invariant.3

pub shape_of-packets-in_default : goal.shape_of-packets-in_default
shape_of-packets-in_default c = c.loop-dst.invariant.4

pub shape_of-streams-in_default : goal.shape_of-streams-in_default
shape_of-streams-in_default c = c.loop-dst.invariant.5

pub shape_of-rx-in_default : goal.shape_of-rx-in_default
shape_of-rx-in_default c = c.loop-dst.invariant.6

pub shape_of-message-in_default : goal.shape_of-message-in_default
shape_of-message-in_default c = c.loop-dst.invariant.7

pub shape_of-bytes-in_default : goal.shape_of-bytes-in_default
shape_of-bytes-in_default c = c.loop-dst.invariant.8
