use Rattle.std.proofs.Common.{◌≡◌, All, IfNone, true, refl, subst, sym, ap, ◌∙◌, arith, length}
use Rattle.cnf_core.specs.declared.clause.Clause.{Clause}
use Rattle.cnf_core.specs.Clause.{assigned, is_model, IsOver}
use Rattle.cnf_core.proofs.Sound.{accepted-no_model}
use Rattle.cnf_core.proofs.NewClausesBound.{fewer_new_clauses}
use Rattle.cdcl_base.specs.Trail.{ArePropagated, AreAllAssigned}
use Rattle.cdcl_base.proofs.SearchLemmas.{propagated-model, log-filled, log-model}
use Rattle.cdcl_core.proofs.ReadyLemmas.{ready-found}
use Rattle.cdcl_core.proofs.search.solve.Goals as goal

pub returns-in_default-clause-model : goal.returns-in_default-clause-model
returns-in_default-clause-model c =
    let invariant = c.loop-search.invariant in
    let trail = c.next_conflict.new.trail in
    let clauses = c.loop-search.search.clauses in
    let over : All (λ (x : Clause). IsOver trail.variables x.lits) clauses =
    subst (λ n. All (λ (x : Clause). IsOver n x.lits) clauses) (sym c.in_ok-found.ensures.variables)
    invariant.1.over in
    let propagated : ArePropagated trail.lits clauses =
    subst (λ o. IfNone o (ArePropagated trail.lits clauses)) c.in_default.is c.in_ok-found.ensures.propagated in
    let all : AreAllAssigned trail =
    subst (λ o. IfNone o (AreAllAssigned trail)) c.in_default.is c.in_ok-found.ensures.assigned in
    let model =
    propagated-model clauses trail c.in_ok-values.values.items c.values_of.ensures.trail over propagated all
    c.in_ok-values.ensures.values in (
      ap length c.from_vec.ensures ∙ c.in_ok-values.ensures.length ∙ c.in_ok-found.ensures.variables ∙ invariant.2,
      log-model (assigned c.from_vec.result) c.args.cnf.now.clauses c.loop-search.search.log.chains clauses invariant.3
          (subst (λ values. is_model (assigned values) clauses ≡ true) (sym c.from_vec.ensures) model),
    )

pub returns-then-left-eq0-clause-decided : goal.returns-then-left-eq0-clause-decided
returns-then-left-eq0-clause-decided c = λ enough.
    let invariant = c.loop-search.invariant in
    let few =
    fewer_new_clauses c.args.cnf.now.variables c.args.cnf.now.clauses c.loop-search.search.log.chains
    c.clauses.ensures.formula invariant.3.new_clauses
    (log-filled c.args.cnf.now.clauses c.loop-search.search.log.chains c.loop-search.search.clauses
    invariant.1.filled invariant.3) in
    let count = invariant.4 in
    let none = c.if-left-eq0.true in
    let left = c.left.ensures in
    omega (arith, few, count, none, left, enough)

pub refute-requires-clause-ready : goal.refute-requires-clause-ready
refute-requires-clause-ready c =
    ready-found c.loop-search.search c.next_conflict.new.trail c.next_conflict.new.blockers c.loop-search.search.clauses
    c.loop-search.invariant.1 refl
    c.in_ok-found.ensures.variables c.in_ok-found.ensures.blockers c.in_ok-found.ensures.reasons
    c.in_ok-found.ensures.before

pub learn-requires-clause-ready : goal.learn-requires-clause-ready
learn-requires-clause-ready c =
    ready-found c.loop-search.search c.next_conflict.new.trail c.next_conflict.new.blockers c.loop-search.search.clauses
    c.loop-search.invariant.1 refl
    c.in_ok-found.ensures.variables c.in_ok-found.ensures.blockers c.in_ok-found.ensures.reasons
    c.in_ok-found.ensures.before

pub returns-in_default-last_decision-clause-no_model : goal.returns-in_default-last_decision-clause-no_model
returns-in_default-last_decision-clause-no_model c =
    accepted-no_model c.args.cnf.now.clauses c.refute.new.self.log.chains
    (c.in_ok-refute.ensures.accepted c.args.cnf.now.clauses c.loop-search.invariant.3)
