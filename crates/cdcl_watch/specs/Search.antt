-- What a search keeps between its steps.
use Rattle.std.specs.Prelude.{◌≡◌, ◌≢◌, [], All, length}
use Rattle.cnf_core.specs.declared.clause.Clause.{Clause}
use Rattle.cdcl_base.specs.Trail.{IsTrail}
use Rattle.cdcl_watch.specs.declared.search.Search.{Search}
use Rattle.cdcl_watch.specs.Watches.{IsWatching}

-- everything is over the trail's variables
pub record AreSizes (search : Search) : Type 0 where
  pub scored : length search.scores.scores ≡ search.trail.variables
  pub ordered : search.order ≡ search.trail.variables
  pub analyzed : search.analyzer ≡ search.trail.variables

-- none of the clauses is empty, and they are watched
pub record IsReady (search : Search) : Type 0 where
  pub trail : IsTrail search.trail
  pub sizes : AreSizes search
  pub filled : All (λ (c : Clause). c.lits ≢ []) search.clauses
  pub watching : IsWatching search.clauses search.pairs.items search.lists search.trail search.head
