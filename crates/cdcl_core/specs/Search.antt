-- What a search keeps between its steps.
use Rattle.std.specs.Prelude.{◌≡◌, ◌≢◌, [], All, length}
use Rattle.cnf_core.specs.declared.clause.Clause.{Clause}
use Rattle.cnf_core.specs.Clause.{IsOver}
use Rattle.cdcl_core.specs.declared.search.Search.{Search}
use Rattle.cdcl_core.specs.Propagation.{AreBlockers}
use Rattle.cdcl_base.specs.Trail.{AreReasons, ArePropagatedBefore}

-- clauses over the trail's variables, none of them empty, and a blocker for each; each true literal but the decisions
-- has its reason; and before each decision every clause was propagated
pub record IsReady (search : Search) : Type 0 where
  pub analyzed : search.analyzer ≡ search.trail.variables
  pub scored : length search.scores.scores ≡ search.trail.variables
  pub over : All (λ c. IsOver search.trail.variables c.lits) search.clauses
  pub blockers : AreBlockers search.clauses search.blockers.items
  pub filled : All (λ (c : Clause). c.lits ≢ []) search.clauses
  pub reasons : AreReasons search.clauses search.trail
  pub before : ArePropagatedBefore search.clauses search.trail
