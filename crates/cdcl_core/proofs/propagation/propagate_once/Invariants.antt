use Rattle.cdcl_core.specs.Propagation.{AreBlockers}
use Rattle.cdcl_core.proofs.PropagationLemmas.{IsPropagating}
use Rattle.cdcl_core.proofs.propagation.propagate_once.Given as goal

abbrev pub invariant-loop-number : goal.invariant-loop-number
invariant-loop-number l =
    IsPropagating l.clauses l.fn.trail l.trail l.number l.changed × AreBlockers l.clauses l.blockers.items
