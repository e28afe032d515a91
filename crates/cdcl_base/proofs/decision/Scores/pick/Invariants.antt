use Rattle.cdcl_base.proofs.DecisionLemmas.{IsBest}
use Rattle.cdcl_base.proofs.decision.Scores.pick.Given as goal

abbrev pub invariant-loop-variable : goal.invariant-loop-variable
invariant-loop-variable l = IsBest l.trail l.scores l.best l.variable
