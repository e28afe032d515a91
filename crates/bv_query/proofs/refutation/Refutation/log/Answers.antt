use Rattle.std.proofs.Common.{subst}
use Rattle.cnf_core.specs.Resolution.{IsAccepted}
use Rattle.bv_query.specs.Refuted.{Refuted}
use Rattle.bv_query.proofs.RefutedLemmas.{test-accepted}
use Rattle.bv_query.proofs.refutation.Refutation.log.Goals as goal

pub returns-clause-accepted : goal.returns-clause-accepted
returns-clause-accepted c =
    subst (λ (r : Refuted). IsAccepted r.formula.clauses r.chains) c.self.view_is
    (test-accepted c.self.inside.blasted.cnf.clauses c.self.inside.log.chains c.self.invariant)
