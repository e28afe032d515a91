use Rattle.std.proofs.Common.{◌≡◌, drop, length}
use Rattle.cdcl_base.specs.Scores.{bumped_all}
use Rattle.cdcl_base.proofs.decision.Scores.bump_all.Given as goal

abbrev pub invariant-loop-variable : goal.invariant-loop-variable
invariant-loop-variable l = record {
  len : length l.self.scores ≡ length l.fn.self.scores;
  scores : bumped_all l.self (drop l.variable-index l.variables) ≡ bumped_all l.fn.self l.variables;
}
