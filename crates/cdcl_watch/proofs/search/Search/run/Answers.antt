use Rattle.std.proofs.Common.{◌≡◌, ◌+◌, ◌∙◌, true, List, IfNone, ap, sym, subst, subst₂, arith, length}
use Rattle.std.proofs.lemmas.Result.{IfOk-weaker}
use Rattle.cnf_core.specs.declared.log.Chain.{Chain}
use Rattle.cnf_core.specs.Clause.{assigned, is_model}
use Rattle.cdcl_base.specs.Trail.{ArePropagated, AreAllAssigned}
use Rattle.cdcl_base.specs.Log.{IsLogOf}
use Rattle.cdcl_base.proofs.SearchLemmas.{log-begins, log-filled, log-model, propagated-model}
use Rattle.cdcl_watch.specs.Answer.{IsAnswer, IsAnswerTo}
use Rattle.cdcl_watch.specs.Search.{IsReady}
use Rattle.cdcl_watch.proofs.search.Search.run.Goals as goal

pub returns-in-Some-clause-answer : goal.returns-in-Some-clause-answer
returns-in-Some-clause-answer c =
    let begun = c.in_ok-root.ensures in
    let none : length c.new.result + c.args.fuel.now ≡ c.args.fuel.now =
    omega (arith, ap (λ (x : List Chain). length x) c.new.ensures) in
    IfOk-weaker c.refuted.result
    (IsAnswerTo c.begin.new.self.trail.variables c.new.result c.begin.new.self.clauses c.args.fuel.now
    c.refuted.new.fuel)
    (IsAnswer c.args.cnf.now c.args.fuel.now c.refuted.new.fuel)
    (λ a h. h c.args.cnf.now c.args.fuel.now (sym begun.variables) c.begin.ensures.formula
    (subst₂ (λ chains cs. IsLogOf c.args.cnf.now.clauses chains cs) (sym c.new.ensures) (sym begun.clauses)
    (log-begins c.args.cnf.now.clauses)) none)
    c.refuted.ensures.answer

pub loop-log-init : goal.loop-log-init
loop-log-init c =
    let begun = c.in_ok-root.ensures in
    record {
      ready = subst (λ o. IfNone o (IsReady c.begin.new.self)) c.in_default.is begun.ready;
      variables = begun.variables;
      log = subst₂ (λ chains cs. IsLogOf c.args.cnf.now.clauses chains cs) (sym c.new.ensures) (sym begun.clauses)
          (log-begins c.args.cnf.now.clauses);
      count = omega (arith, ap (λ (x : List Chain). length x) c.new.ensures);
    }

pub returns-in_default-found-clause-answer : goal.returns-in_default-found-clause-answer
returns-in_default-found-clause-answer c =
    let invariant = c.loop-log.invariant in
    let found = c.in_ok-found.ensures in
    let trail = c.next_conflict.new.self.trail in
    let clauses = c.next_conflict.new.self.clauses in
    let propagated : ArePropagated trail.lits clauses =
    subst (λ o. IfNone o (ArePropagated trail.lits clauses)) c.in_default-found.is found.propagated in
    let all : AreAllAssigned trail =
    subst (λ o. IfNone o (AreAllAssigned trail)) c.in_default-found.is found.assigned in
    let model =
    propagated-model clauses trail c.in_ok-values.values.items c.values_of.ensures.trail found.ready.watching.over
    propagated all c.in_ok-values.ensures.values in (
      ap length c.from_vec.ensures ∙ c.in_ok-values.ensures.length ∙ found.variables ∙ invariant.variables,
      log-model (assigned c.from_vec.result) c.args.cnf.now.clauses c.loop-log.log.chains c.loop-log.self.clauses
          invariant.log
          (subst (λ values. is_model (assigned values) c.loop-log.self.clauses ≡ true) (sym c.from_vec.ensures)
          (subst (λ cs. is_model (assigned c.in_ok-values.values.items) cs ≡ true) found.clauses model)),
    )

pub returns-then-left-eq0-clause-answer : goal.returns-then-left-eq0-clause-answer
returns-then-left-eq0-clause-answer c =
    let invariant = c.loop-log.invariant in (
      log-filled c.args.cnf.now.clauses c.loop-log.log.chains c.loop-log.self.clauses invariant.ready.filled
          invariant.log,
      invariant.log.new_clauses,
      invariant.count,
      sym c.left.ensures ∙ c.if-left-eq0.true,
    )
