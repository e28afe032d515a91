use Rattle.std.proofs.Common.{arith, ap, ◌∙◌, ◌+◌, ◌-◌}
use Rattle.multiset_rank.specs.Rising.{multichoose}
use Rattle.multiset_rank.proofs.RisingLemmas.{is_below}
use Rattle.multiset_rank.proofs.PlaceLemmas.{reached_below, reached_next, reached_place}
use Rattle.multiset_rank.proofs.order.first_number.Goals as goal

pub overflow_sub-kinds : goal.overflow_sub-kinds
overflow_sub-kinds c = let below = is_below c.args.from c.args.kinds c.args.size c.args.number c.requires.number in
    omega (arith, below)

pub overflow_add-first : goal.overflow_add-first
overflow_add-first c =
    let below = reached_below c.args.from c.args.kinds c.args.size c.args.number c.loop-block.first c.loop-block.rest
    c.loop-block.invariant.reached in
    omega (arith, below)

pub overflow_sub-kinds-in-loop-block : goal.overflow_sub-kinds-in-loop-block
overflow_sub-kinds-in-loop-block c =
    let below = reached_below c.args.from c.args.kinds c.args.size c.args.number c.loop-block.first c.loop-block.rest
    c.loop-block.invariant.reached in
    omega (arith, below)

pub without_a_kind-block-requires-clause-some : goal.without_a_kind-block-requires-clause-some
without_a_kind-block-requires-clause-some c =
    let next = reached_next c.args.from c.args.kinds c.args.size c.args.number c.loop-block.first c.loop-block.rest
    c.loop-block.block c.loop-block.invariant.reached c.loop-block.invariant.block c.loop-block-test.true in
    let below = reached_below c.args.from c.args.kinds c.args.size c.args.number (c.loop-block.first + 1)
    (c.loop-block.rest - c.loop-block.block) next in
    omega (arith, below)

pub without_a_kind-block-requires-clause-ways : goal.without_a_kind-block-requires-clause-ways
without_a_kind-block-requires-clause-ways c =
    let below = reached_below c.args.from c.args.kinds c.args.size c.args.number c.loop-block.first c.loop-block.rest
    c.loop-block.invariant.reached in
    c.loop-block.invariant.block ∙ ap (λ n. multichoose n c.args.size) (omega (arith, below))

pub loop-block-smaller : goal.loop-block-smaller
loop-block-smaller c =
    let below = reached_below c.args.from c.args.kinds c.args.size c.args.number c.loop-block.first c.loop-block.rest
    c.loop-block.invariant.reached in
    omega (arith, below)

pub loop-block-preserved : goal.loop-block-preserved
loop-block-preserved c = record {
  reached = reached_next c.args.from c.args.kinds c.args.size c.args.number c.loop-block.first c.loop-block.rest
      c.loop-block.block c.loop-block.invariant.reached c.loop-block.invariant.block c.loop-block-test.true;
  block = c.without_a_kind-block.ensures;
}

pub returns-clause-below : goal.returns-clause-below
returns-clause-below c =
    reached_below c.args.from c.args.kinds c.args.size c.args.number c.loop-block.first c.loop-block.rest
    c.loop-block.invariant.reached

pub returns-clause-place : goal.returns-clause-place
returns-clause-place c =
    reached_place c.args.from c.args.kinds c.args.size c.args.number c.loop-block.first c.loop-block.rest
    c.loop-block.block c.loop-block.invariant.reached c.loop-block.invariant.block c.loop-block-test.false
