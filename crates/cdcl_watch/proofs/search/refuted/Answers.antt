use Rattle.std.proofs.Common.{◌∙◌, ap, sym, subst, arith, length}
use Rattle.std.proofs.lemmas.List.{length_push}
use Rattle.cnf_core.specs.Resolution.{IsAccepted, AreNewClauses}
use Rattle.cdcl_base.proofs.SearchLemmas.{log-filled, log-closed}
use Rattle.cdcl_watch.proofs.search.refuted.Goals as goal

pub returns-then-left-eq0-clause-answer : goal.returns-then-left-eq0-clause-answer
returns-then-left-eq0-clause-answer c = λ f units variables formula log count. (
  log-filled f.clauses c.args.log.chains c.args.clauses.now c.requires.filled log,
  log.new_clauses,
  count,
  sym c.left.ensures ∙ c.if-left-eq0.true,
)

pub returns-clause-answer : goal.returns-clause-answer
returns-clause-answer c = λ f units variables formula log count.
    let closed = log-closed f.clauses c.args.log.chains c.args.clauses.now c.in_ok-chain.chain c.requires.filled log
    c.in_ok-chain.ensures in
    let spent = c.spend.ensures in
    let more = length_push c.args.log.chains c.in_ok-chain.chain in (
      subst (IsAccepted f.clauses) (sym c.in_ok-push.ensures.ok) closed.0,
      subst (AreNewClauses f.clauses) (sym c.in_ok-push.ensures.ok) closed.1,
      omega (arith, ap length c.in_ok-push.ensures.ok, more, count, spent),
    )
