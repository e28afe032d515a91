use Rattle.std.proofs.Common.{sym, subst}
use Rattle.bit_blast.specs.Clauses.{AreClausesFor}
use Rattle.bv_query.specs.Session.{Asserted, formulas_in, IsRightSession}
use Rattle.bv_query.proofs.session.Session.blasted.Goals as goal

pub returns-clause-clauses : goal.returns-clause-clauses
returns-clause-clauses c = λ table right.
    let inner = subst (λ (s : Asserted). IsRightSession s table) (sym c.self.view_is) right in
    subst (λ (s : Asserted). AreClausesFor (formulas_in table s) c.blasted.result.now.cnf c.blasted.result.now.bits)
    c.self.view_is (c.blasted.ensures.clauses table inner.blast)
