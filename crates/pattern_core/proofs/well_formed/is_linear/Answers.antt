use Rattle.std.proofs.Common.{ℕ, ◌<◌, arith}
use borrow.Author.Count.{below_more}
use Rattle.isel_spec.specs.Spec.{file}
use Rattle.pattern_core.specs.declared.pattern.Src.TheVariants.{Input, Out}
use Rattle.pattern_core.specs.Pattern.{IsLinearAt}
use Rattle.pattern_core.proofs.SourceLemmas.{linear_everywhere}
use Rattle.list_lemmas.proofs.Bools.{no_answer, not_by_test as never}
use Rattle.pattern_core.proofs.well_formed.is_linear.Goals as goal

pub returns-then-not-is_node_linear : goal.returns-then-not-is_node_linear
returns-then-not-is_node_linear c = λ g there.
    no_answer (λ all. never c.is_node_linear.result c.if-not-is_node_linear.true (c.is_node_linear.ensures g there)
    (λ r within. all (Out c.loop-node.node r)))

pub loop-node-preserved : goal.loop-node-preserved
loop-node-preserved c = λ g there.
    below_more (λ n. (r : ℕ) → r < 3 → IsLinearAt (file c.args.spec.now) g c.args.pattern.now (Out n r))
    c.loop-node.node (c.loop-node.invariant g there)
    ((c.is_node_linear.ensures g there).0 c.if-not-is_node_linear.false)

pub returns : goal.returns
returns c = λ g there. (
  λ yes. linear_everywhere c.args.spec.now c.args.goal g c.args.pattern.now there
      ((c.are_inputs_linear.ensures g there).0 yes)
      (λ n within. c.loop-node.invariant g there n (omega arith)),
  λ all. (c.are_inputs_linear.ensures g there).1 (λ k within. all (Input k)),
)
