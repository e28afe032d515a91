use Rattle.std.proofs.Common.{arith}
use borrow.Author.Count.{below_more}
use Rattle.isel_spec.specs.Spec.{file}
use Rattle.pattern_core.specs.declared.pattern.Src.TheVariants.{Out}
use Rattle.pattern_core.specs.Pattern.{IsLinearAt}
use Rattle.list_lemmas.proofs.Bools.{no_answer, yes_answer, not_by_test as never}
use Rattle.pattern_core.proofs.well_formed.is_node_linear.Goals as goal

pub returns-then-not-is_linear_at : goal.returns-then-not-is_linear_at
returns-then-not-is_linear_at c = λ g there.
    no_answer (λ all. never c.is_linear_at.result c.if-not-is_linear_at.true (c.is_linear_at.ensures g there)
    (all c.loop-place.place (omega arith)))

pub loop-place-preserved : goal.loop-place-preserved
loop-place-preserved c = λ g there.
    below_more (λ r. IsLinearAt (file c.args.spec.now) g c.args.pattern.now (Out c.args.node r)) c.loop-place.place
    (c.loop-place.invariant g there) ((c.is_linear_at.ensures g there).0 c.if-not-is_linear_at.false)

pub returns : goal.returns
returns c = λ g there. yes_answer (λ r within. c.loop-place.invariant g there r (omega arith))
