use Rattle.std.proofs.Common.{subst, sym}
use Rattle.cnf_core.specs.Resolution.{IsAccepted, AreNewClauses}
use Rattle.cdcl_base.proofs.SearchLemmas.{log-closed}
use Rattle.cdcl_core.proofs.search.Search.refute.Goals as goal

pub returns-clause-accepted : goal.returns-clause-accepted
returns-clause-accepted c = λ given log.
    subst (IsAccepted given) (sym c.in_ok-push.ensures.ok)
    (log-closed given c.args.self.now.log.chains c.args.self.now.clauses c.in_ok-chain.chain
    c.requires.ready.filled log c.in_ok-chain.ensures).0

pub returns-clause-new_clauses : goal.returns-clause-new_clauses
returns-clause-new_clauses c = λ given log.
    subst (AreNewClauses given) (sym c.in_ok-push.ensures.ok)
    (log-closed given c.args.self.now.log.chains c.args.self.now.clauses c.in_ok-chain.chain
    c.requires.ready.filled log c.in_ok-chain.ensures).1
