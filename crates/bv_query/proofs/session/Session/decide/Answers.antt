use Rattle.std.proofs.Common.{◌≡◌, ◌∙◌, Some, map, sym, ap, subst}
use Rattle.std.specs.Prelude.{Option, IfSome}
use Rattle.bv_terms.specs.Table.{term_at}
use Rattle.cnf_core.specs.Clause.{HasNoModel}
use Rattle.cnf_core.specs.Formula.{Formula}
use Rattle.circuit.specs.declared.circuit.Blasted.{Blasted}
use Rattle.cdcl_base.specs.declared.answer.Answer.{Answer}
use Rattle.cdcl_base.specs.Answer.{OnRefuted}
use Rattle.bit_blast.specs.Clauses.{AreClausesFor}
use Rattle.bv_query.specs.Refuted.{Refuted}
use Rattle.bv_query.specs.Session.{Asserted, formulas_in, IsRightSession}
use Rattle.bv_query.specs.Decision.{HaveNoWitness}
use Rattle.bv_query.proofs.WitnessLemmas.{no-witness}
use Rattle.bv_query.proofs.session.Session.decide.Goals as goal

pub returns-in_ok-checked-in-Refuted-clause-no : goal.returns-in_ok-checked-in-Refuted-clause-no
returns-in_ok-checked-in-Refuted-clause-no c =
    let table = c.args.terms.now in
    let none = subst (λ (a : Answer). OnRefuted a (λ chains. HasNoModel c.self.inside.solver.clauses)) c.in-Refuted.is
    c.in_ok-model.ensures.no_model in
    no-witness table c.args.self.now c.requires
    (subst (λ (s : Asserted). HasNoModel s.clauses.clauses) c.self.view_is none)

pub returns-in_ok-checked-in-Refuted-clause-clauses : goal.returns-in_ok-checked-in-Refuted-clause-clauses
returns-in_ok-checked-in-Refuted-clause-clauses c =
    let table = c.args.terms.now in
    let ts = formulas_in table c.args.self.now in
    let inner = subst (λ (s : Asserted). IsRightSession s table) (sym c.self.view_is) c.requires in
    let kept = subst (λ (s : Asserted). AreClausesFor (formulas_in table s) c.blasted.result.now.cnf
    c.blasted.result.now.bits) c.self.view_is (c.blasted.ensures.clauses table inner.blast) in
    let blasted =
    subst (λ (b : Blasted). AreClausesFor ts b.cnf b.bits) (sym c.in_ok-blasted-in-Refuted.ensures) kept in
    let formula = subst (λ (o : Option Refuted). IfSome o (λ r. r.formula ≡ c.in_ok-blasted-in-Refuted.blasted.cnf))
    c.unwrap-refutation.ensures c.in_ok-checked-in-Refuted.ensures.formula in
    let bits = subst (λ (o : Option Refuted). IfSome o (λ r. r.bits ≡ c.in_ok-blasted-in-Refuted.blasted.bits))
    c.unwrap-refutation.ensures c.in_ok-checked-in-Refuted.ensures.bits in
    subst (λ (f : Formula). AreClausesFor ts f c.unwrap-refutation.result.bits) (sym formula)
    (subst (AreClausesFor ts c.in_ok-blasted-in-Refuted.blasted.cnf) (sym bits) blasted)

pub returns-in_ok-blasted-in-Spent-clause-clauses : goal.returns-in_ok-blasted-in-Spent-clause-clauses
returns-in_ok-blasted-in-Spent-clause-clauses c =
    let table = c.args.terms.now in
    let ts = formulas_in table c.args.self.now in
    let inner = subst (λ (s : Asserted). IsRightSession s table) (sym c.self.view_is) c.requires in
    let kept = subst (λ (s : Asserted). AreClausesFor (formulas_in table s) c.blasted-in-Spent.result.now.cnf
    c.blasted-in-Spent.result.now.bits) c.self.view_is (c.blasted-in-Spent.ensures.clauses table inner.blast) in
    subst (λ (b : Blasted). AreClausesFor ts b.cnf b.bits) (sym c.in_ok-blasted-in-Spent.ensures) kept
