use Rattle.std.proofs.Common.{sym, ◌∙◌}
use Rattle.std.proofs.lemmas.Bool.{false≢true}
use Rattle.proof_check.proofs.NewClausesLemmas.{new_clause-append, new_clause-left, new_clause-right}
use Rattle.proof_check.proofs.new_clauses.is_new.Goals as goal

pub returns-then-is_new_clause : goal.returns-then-is_new_clause
returns-then-is_new_clause c = (
  λ yes. new_clause-append c.args.clauses.now c.args.earlier.now c.args.clause.now.lits
      (c.is_new_clause.ensures.0 c.if-is_new_clause.true) (c.is_new_clause-then-is_new_clause.ensures.0 yes),
  λ new_clause. c.is_new_clause-then-is_new_clause.ensures.1
      (new_clause-right c.args.clauses.now c.args.earlier.now c.args.clause.now.lits new_clause),
)

pub returns-else-is_new_clause : goal.returns-else-is_new_clause
returns-else-is_new_clause c = (
  λ yes. absurd (false≢true (sym c.if-is_new_clause.false ∙ yes)),
  λ new_clause.
      c.is_new_clause.ensures.1
      (new_clause-left c.args.clauses.now c.args.earlier.now c.args.clause.now.lits new_clause),
)
