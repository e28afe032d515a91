-- What a search keeps as its trail propagates and decides.
use Rattle.std.proofs.Common.{◌≡◌, List, All, Vec, Global, subst, sym, ◌∙◌}
use Rattle.cnf_core.specs.declared.clause.Lit.{Lit}
use Rattle.cnf_core.specs.declared.clause.Clause.{Clause}
use Rattle.cnf_core.specs.Clause.{IsOver}
use Rattle.cdcl_base.specs.Trail.{Trail, AreReasons, ArePropagatedBefore}
use Rattle.cdcl_core.specs.declared.search.Search.{Search}
use Rattle.cdcl_core.specs.Propagation.{AreBlockers}
use Rattle.cdcl_core.specs.Search.{IsReady}

-- a search whose trail has propagated and decided
pub ready-found : (old : Search) (trail : Trail) (blockers : Vec Lit Global) (cs : List Clause) → IsReady old →
    cs ≡ old.clauses → trail.variables ≡ old.trail.variables → AreBlockers cs blockers.items →
    AreReasons cs trail → ArePropagatedBefore cs trail →
    IsReady
    (record {
      clauses = old.clauses;
      blockers = blockers;
      trail = trail;
      scores = old.scores;
      analyzer = old.analyzer;
      log = old.log;
    })
ready-found old trail blockers cs ready same variables blocked reasons before = record {
  analyzed = ready.analyzed ∙ sym variables;
  scored = ready.scored ∙ sym variables;
  over = subst (λ n. All (λ (x : Clause). IsOver n x.lits) old.clauses) (sym variables) ready.over;
  blockers = subst (λ xs. AreBlockers xs blockers.items) same blocked;
  filled = ready.filled;
  reasons = subst (λ xs. AreReasons xs trail) same reasons;
  before = subst (λ xs. ArePropagatedBefore xs trail) same before;
}
