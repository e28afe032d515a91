use Rattle.std.proofs.Common.{◌≢◌, ◌++◌, ◌∷◌, [], All, ap, subst, subst₂, sym, ◌∙◌, le_refl}
use Rattle.std.proofs.lemmas.Result.{on_ok_weaker}
use Rattle.std.proofs.lemmas.List.Elements.{All-push}
use Rattle.cnf_core.specs.declared.clause.Clause.{Clause}
use Rattle.cnf_core.specs.Clause.{IsOver}
use Rattle.cnf_core.specs.Resolution.{clause}
use Rattle.cnf_core.proofs.Over.{over-at}
use Rattle.cdcl_base.specs.Log.{IsLogOf}
use Rattle.cdcl_base.proofs.SearchLemmas.{log-more, filled_by}
use Rattle.cdcl_core.specs.Propagation.{AreBlockers}
use Rattle.cdcl_core.proofs.PropagationLemmas.{blockers-push}
use Rattle.cdcl_core.proofs.search.Search.learn.Goals as goal
use Rattle.list_lemmas.proofs.Options.{on_ok_three}

pub backjump-requires-clause-there : goal.backjump-requires-clause-there
backjump-requires-clause-there c =
    let learnt = c.in_ok-learnt.ensures.learnt in
    over-at c.args.self.now.trail.variables c.in_ok-learnt.learnt.clause.items c.in_ok-learnt.learnt.lit learnt.over
    (learnt.asserting.forces c.in_ok-learnt.learnt.keep (le_refl c.in_ok-learnt.learnt.keep)).stands

pub returns-clause-ready : goal.returns-clause-ready
returns-clause-ready c =
    let learnt = c.in_ok-learnt.ensures.learnt in
    let added = clause c.in_ok-learnt.learnt.clause.items in
    let stands =
    (learnt.asserting.forces c.in_ok-learnt.learnt.keep (le_refl c.in_ok-learnt.learnt.keep)).stands in
    let items =
    c.in_ok-push.ensures.ok ∙ ap (λ ls. c.args.self.now.clauses ++ clause ls ∷ []) c.as_slice.ensures.value in
    on_ok_three c.backjump.result
    (λ variables reasons before. record {
      analyzed = c.analyze.ensures.variables ∙ c.requires.ready.analyzed ∙ sym variables;
      scored = c.bump_all.ensures.length ∙ c.requires.ready.scored ∙ sym variables;
      over = subst (λ n. All (λ (x : Clause). IsOver n x.lits) c.push.new.self) (sym variables)
          (subst (All (λ (x : Clause). IsOver c.args.self.now.trail.variables x.lits)) (sym items)
          (All-push (λ (x : Clause). IsOver c.args.self.now.trail.variables x.lits) c.args.self.now.clauses added
          c.requires.ready.over learnt.over));
      blockers = subst₂ AreBlockers (sym items) (sym c.in_ok-push-2.ensures.items)
          (blockers-push c.args.self.now.clauses c.args.self.now.blockers.items added c.in_ok-learnt.learnt.lit
          c.requires.ready.blockers stands);
      filled = subst (All (λ (x : Clause). x.lits ≢ [])) (sym items)
          (All-push (λ (x : Clause). x.lits ≢ []) c.args.self.now.clauses added c.requires.ready.filled
          (filled_by added.lits c.in_ok-learnt.learnt.lit stands));
      reasons = reasons;
      before = before;
    })
    c.backjump.ensures.variables c.backjump.ensures.reasons c.backjump.ensures.before

pub returns-clause-log : goal.returns-clause-log
returns-clause-log c =
    let learnt = c.in_ok-learnt.ensures.learnt in
    let items =
    c.in_ok-push.ensures.ok ∙ ap (λ ls. c.args.self.now.clauses ++ clause ls ∷ []) c.as_slice.ensures.value in
    on_ok_weaker c.backjump.result
    (λ variables given log. subst₂ (λ chains clauses. IsLogOf given chains clauses) (sym c.in_ok-push-3.ensures.ok)
    (sym items)
    (log-more given c.args.self.now.log.chains c.args.self.now.clauses c.in_ok-learnt.learnt.chain
    learnt.lits_derived (clause c.in_ok-learnt.learnt.clause.items) log learnt.derives learnt.same learnt.new_clause))
    c.backjump.ensures.variables
