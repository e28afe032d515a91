use Rattle.std.proofs.Common.{sym, subst₂, ◌∙◌}
use Rattle.cdcl_base.specs.Log.{IsLogOf}
use Rattle.cdcl_base.proofs.SearchLemmas.{log-begins}
use Rattle.cdcl_core.proofs.search.Search.new.Goals as goal

pub returns-clause-log : goal.returns-clause-log
returns-clause-log c =
    subst₂ (λ chains clauses. IsLogOf c.args.cnf.now.clauses chains clauses) (sym c.new-4.ensures)
    (sym (c.in_ok-clauses.ensures ∙ c.clauses.ensures.clauses)) (log-begins c.args.cnf.now.clauses)
