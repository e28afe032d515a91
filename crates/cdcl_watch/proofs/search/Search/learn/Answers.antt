use Rattle.std.proofs.Common.{◌<◌, ◌∙◌, All, ap, sym, subst, subst₂, le_refl, [], ◌∷◌, ◌++◌}
use Rattle.std.proofs.lemmas.Result.{on_ok_weaker}
use Rattle.list_lemmas.proofs.Options.{on_ok_three}
use Rattle.cnf_core.specs.Clause.{IsOver}
use Rattle.cnf_core.specs.Resolution.{clause}
use Rattle.cdcl_base.specs.Log.{IsLogOf}
use Rattle.cdcl_base.specs.Analysis.{IsAsserting, IsLastFalse}
use Rattle.cdcl_base.proofs.SearchLemmas.{log-more}
use Rattle.cdcl_watch.proofs.SearchSteps.{propagated-before, ready-learnt}
use Rattle.cdcl_watch.proofs.search.Search.learn.Goals as goal

pub analyze-requires-clause-before : goal.analyze-requires-clause-before
analyze-requires-clause-before c =
    let s = c.args.self.now in
    propagated-before s.clauses s.pairs.items s.lists s.trail s.head c.requires.ready.watching

pub rate-requires-clause-scored : goal.rate-requires-clause-scored
rate-requires-clause-scored c = c.requires.ready.sizes.scored ∙ sym c.requires.ready.sizes.ordered

pub rate-requires-clause-marked : goal.rate-requires-clause-marked
rate-requires-clause-marked c =
    subst (λ n. All (λ x. x < n) c.marked.result.now)
    (c.analyze.ensures.variables ∙ c.requires.ready.sizes.analyzed ∙ sym c.requires.ready.sizes.ordered)
    c.marked.ensures

pub rate-requires-clause-over : goal.rate-requires-clause-over
rate-requires-clause-over c =
    subst (λ n. IsOver n c.lits.result.now) (sym c.requires.ready.sizes.ordered)
    (subst (IsOver c.args.self.now.trail.variables) (sym c.lits.ensures.lits) c.requires.ready.trail.over)

pub backjump-requires-clause-over : goal.backjump-requires-clause-over
backjump-requires-clause-over c =
    subst (IsOver c.args.self.now.trail.variables) (sym c.as_slice.ensures.value) c.in_ok-learnt.ensures.learnt.over

pub backjump-requires-clause-asserting : goal.backjump-requires-clause-asserting
backjump-requires-clause-asserting c = (
  c.args.level_start,
  c.requires.level_start,
  subst (λ ls. IsAsserting c.args.self.now.trail.lits ls c.in_ok-learnt.learnt.lit c.args.level_start
      c.in_ok-learnt.learnt.keep) (sym c.as_slice.ensures.value) c.in_ok-learnt.ensures.learnt.asserting,
)

pub backjump-requires-clause-last_false : goal.backjump-requires-clause-last_false
backjump-requires-clause-last_false c = λ some.
    subst (λ ls. IsLastFalse c.args.self.now.trail.lits ls c.in_ok-learnt.learnt.lit c.in_ok-learnt.learnt.keep
    c.in_ok-learnt.learnt.last_false) (sym c.as_slice.ensures.value)
    (c.in_ok-learnt.ensures.learnt.last_false some)

pub returns-clause-ready : goal.returns-clause-ready
returns-clause-ready c =
    let learnt = c.in_ok-learnt.ensures.learnt in
    on_ok_three c.backjump.result
    (λ variables clauses watching. ready-learnt c.args.self.now _ c.in_ok-learnt.learnt.clause.items
    c.in_ok-learnt.learnt.lit c.requires.ready
    (clauses ∙ ap (λ ls. c.args.self.now.clauses ++ clause ls ∷ []) c.as_slice.ensures.value)
    (learnt.asserting.forces c.in_ok-learnt.learnt.keep (le_refl c.in_ok-learnt.learnt.keep)).stands
    c.rate.ensures.scores c.rate.ensures.order c.analyze.ensures.variables variables c.backjump.ensures.trail
    watching)
    c.backjump.ensures.variables c.backjump.ensures.clauses c.backjump.ensures.watching

pub returns-clause-log : goal.returns-clause-log
returns-clause-log c =
    let learnt = c.in_ok-learnt.ensures.learnt in
    on_ok_weaker c.backjump.result
    (λ clauses given log. subst₂ (λ chains cs. IsLogOf given chains cs) (sym c.in_ok-push.ensures.ok)
    (sym (clauses ∙ ap (λ ls. c.args.self.now.clauses ++ clause ls ∷ []) c.as_slice.ensures.value))
    (log-more given c.args.log.now.chains c.args.self.now.clauses c.in_ok-learnt.learnt.chain learnt.lits_derived
    (clause c.in_ok-learnt.learnt.clause.items) log learnt.derives learnt.same learnt.new_clause))
    c.backjump.ensures.clauses
