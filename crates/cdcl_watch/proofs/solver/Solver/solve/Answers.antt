use Rattle.std.proofs.Common.{◌≡◌, ◌+◌, true, length, subst}
use Rattle.std.proofs.lemmas.Result.{IfOk-weaker}
use Rattle.cnf_core.specs.Clause.{assigned, is_model, HasNoModel}
use Rattle.cnf_core.specs.Formula.{IsFormula}
use Rattle.cnf_core.specs.Resolution.{IsAccepted, AreNewClauses}
use Rattle.cdcl_base.specs.Answer.{OnModel, OnRefuted, OnSpent, OnLog}
use Rattle.cdcl_watch.specs.Answer.{IsAnswer}
use Rattle.cdcl_watch.proofs.AnswerLemmas.{answered, answer-model, answer-refuted, answer-no_model, answer-new_clauses}
use Rattle.cdcl_watch.proofs.AnswerLemmas.{answer-count, answer-spent, answer-decided}
use Rattle.cdcl_watch.proofs.solver.Solver.solve.Goals as goal

pub returns-clause-model : goal.returns-clause-model
returns-clause-model c =
    IfOk-weaker c.run.result (IsAnswer c.args.self.now c.args.fuel.now c.run.new.fuel)
    (λ a. OnModel a (λ values. (length values ≡ c.args.self.now.variables)
    × (is_model (assigned values) c.args.self.now.clauses ≡ true)))
    (answer-model c.args.self.now c.args.fuel.now c.run.new.fuel)
    (answered c.run.result c.self.inside.cnf c.args.self.now c.args.fuel.now c.run.new.fuel c.self.view_is
    c.run.ensures.answer)

pub returns-clause-refuted : goal.returns-clause-refuted
returns-clause-refuted c =
    IfOk-weaker c.run.result (IsAnswer c.args.self.now c.args.fuel.now c.run.new.fuel)
    (λ a. OnRefuted a (λ chains. IsAccepted c.args.self.now.clauses chains))
    (answer-refuted c.args.self.now c.args.fuel.now c.run.new.fuel)
    (answered c.run.result c.self.inside.cnf c.args.self.now c.args.fuel.now c.run.new.fuel c.self.view_is
    c.run.ensures.answer)

pub returns-clause-no_model : goal.returns-clause-no_model
returns-clause-no_model c =
    IfOk-weaker c.run.result (IsAnswer c.args.self.now c.args.fuel.now c.run.new.fuel)
    (λ a. OnRefuted a (λ chains. HasNoModel c.args.self.now.clauses))
    (answer-no_model c.args.self.now c.args.fuel.now c.run.new.fuel)
    (answered c.run.result c.self.inside.cnf c.args.self.now c.args.fuel.now c.run.new.fuel c.self.view_is
    c.run.ensures.answer)

pub returns-clause-new_clauses : goal.returns-clause-new_clauses
returns-clause-new_clauses c =
    IfOk-weaker c.run.result (IsAnswer c.args.self.now c.args.fuel.now c.run.new.fuel)
    (λ a. OnLog a (AreNewClauses c.args.self.now.clauses))
    (answer-new_clauses c.args.self.now c.args.fuel.now c.run.new.fuel)
    (answered c.run.result c.self.inside.cnf c.args.self.now c.args.fuel.now c.run.new.fuel c.self.view_is
    c.run.ensures.answer)

pub returns-clause-count : goal.returns-clause-count
returns-clause-count c =
    IfOk-weaker c.run.result (IsAnswer c.args.self.now c.args.fuel.now c.run.new.fuel)
    (λ a. OnLog a (λ chains. length chains + c.run.new.fuel ≡ c.args.fuel.now))
    (answer-count c.args.self.now c.args.fuel.now c.run.new.fuel)
    (answered c.run.result c.self.inside.cnf c.args.self.now c.args.fuel.now c.run.new.fuel c.self.view_is
    c.run.ensures.answer)

pub returns-clause-spent : goal.returns-clause-spent
returns-clause-spent c =
    IfOk-weaker c.run.result (IsAnswer c.args.self.now c.args.fuel.now c.run.new.fuel)
    (λ a. OnSpent a (λ chains. c.run.new.fuel ≡ 0))
    (answer-spent c.args.self.now c.args.fuel.now c.run.new.fuel)
    (answered c.run.result c.self.inside.cnf c.args.self.now c.args.fuel.now c.run.new.fuel c.self.view_is
    c.run.ensures.answer)

pub returns-clause-decided : goal.returns-clause-decided
returns-clause-decided c = λ enough.
    IfOk-weaker c.run.result (IsAnswer c.args.self.now c.args.fuel.now c.run.new.fuel)
    (λ a. OnSpent a (λ chains. ⊥))
    (λ a h. answer-decided c.args.self.now c.args.fuel.now c.run.new.fuel a
    (subst IsFormula c.self.view_is c.clauses.ensures.formula) h enough)
    (answered c.run.result c.self.inside.cnf c.args.self.now c.args.fuel.now c.run.new.fuel c.self.view_is
    c.run.ensures.answer)
