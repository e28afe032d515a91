use Rattle.std.proofs.Common.{arith}
use borrow.Author.Count.{below_more}
use Rattle.isel_spec.specs.Spec.{file}
use Rattle.pattern_core.specs.declared.pattern.Src.TheVariants.{Input}
use Rattle.pattern_core.specs.Pattern.{IsLinearAt}
use Rattle.list_lemmas.proofs.Bools.{no_answer, yes_answer, not_by_test as never}
use Rattle.pattern_core.proofs.well_formed.are_inputs_linear.Goals as goal

pub returns-then-not-is_linear_at : goal.returns-then-not-is_linear_at
returns-then-not-is_linear_at c = λ g there.
    no_answer (λ all. never c.is_linear_at.result c.if-not-is_linear_at.true (c.is_linear_at.ensures g there)
    (all c.loop-input.input (omega arith)))

pub loop-input-preserved : goal.loop-input-preserved
loop-input-preserved c = λ g there.
    below_more (λ k. IsLinearAt (file c.args.spec.now) g c.args.pattern.now (Input k)) c.loop-input.input
    (c.loop-input.invariant g there) ((c.is_linear_at.ensures g there).0 c.if-not-is_linear_at.false)

pub returns : goal.returns
returns c = λ g there. yes_answer (λ k within. c.loop-input.invariant g there k (omega arith))
