-- The formula's invariant gives what the lemma asks of its clauses.
use Rattle.cnf_core.proofs.NewClausesBound.{new_clauses_are_few}
use Rattle.cnf_core.proofs.law.new_clauses_bound.Goals as goal

pub returns : goal.returns
returns c =
    new_clauses_are_few c.args.cnf.now.variables c.args.cnf.now.clauses c.args.log.now.chains
    c.clauses-clauses.ensures.formula c.requires
