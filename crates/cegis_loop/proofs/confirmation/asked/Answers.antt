use Rattle.std.proofs.Common.{◌≤◌, ℕ, List, sym, subst}
use Rattle.std.specs.Prelude.{◌↔◌}
use Rattle.bv_terms.specs.Table.{term_at}
use Rattle.bv_terms.specs.Term.{Term}
use Rattle.bit_blast.specs.Clauses.{IsFormula}
use Rattle.isel_spec.specs.File.{File}
use Rattle.isel_spec.specs.Spec.{file}
use Rattle.pattern_core.proofs.EvalLemmas.{some_goal}
use Rattle.pattern_core.specs.Claim.{Claim, IsClaim}
use Rattle.pattern_core.specs.Rule.{IsRule, IsPlainRule}
use Rattle.cegis_loop.specs.Answer.{IsAsked}
use Rattle.cegis_loop.specs.Miter.{IsMiterOf}
use Rattle.cegis_loop.proofs.AnswerLemmas.{one-sort, asked-is, asked-result}
use Rattle.cegis_loop.proofs.confirmation.asked.Goals as goal

pub new-terms-requires-clause-wide : goal.new-terms-requires-clause-wide
new-terms-requires-clause-wide c = subst (λ p. 1 ≤ p) (sym c.pointer.ensures) c.len-count.ensures.table.wide

pub new-terms-requires-clause-narrow : goal.new-terms-requires-clause-narrow
new-terms-requires-clause-narrow c = subst (λ p. p ≤ 64) (sym c.pointer.ensures) c.len-count.ensures.table.narrow

pub decide-requires-clause-truth : goal.decide-requires-clause-truth
decide-requires-clause-truth c =
    let g = some_goal c.args.spec.now c.args.goal c.requires.there in
    let m = c.in_ok-formula.ensures.miter g.0 g.1 in
    subst (λ p. IsFormula p (term_at c.miter.new.terms c.in_ok-formula.formula))
    (sym c.in_ok-formula.ensures.pointer) m.formula

pub decide-requires-clause-one_sort : goal.decide-requires-clause-one_sort
decide-requires-clause-one_sort c =
    let g = some_goal c.args.spec.now c.args.goal c.requires.there in
    one-sort (file c.args.spec.now) g.0 c.args.pattern.now (term_at c.miter.new.terms c.in_ok-formula.formula)
    (c.in_ok-formula.ensures.miter g.0 g.1)

pub returns-clause-answer : goal.returns-clause-answer
returns-clause-answer c =
    let s = c.args.spec.now in
    let p = c.args.pattern.now in
    let t : Term = term_at c.miter.new.terms c.in_ok-formula.formula in
    let old : ℕ = c.args.fuel.now in
    let new : ℕ = c.decide.new.fuel in
    asked-result t old new
    (λ d. (k : Claim) (ops : List ℕ) → IsClaim s c.args.goal ops k → IsAsked k p old new d) c.decide.result
    c.decide.ensures.yes c.decide.ensures.no c.decide.ensures.clauses c.decide.ensures.new_clauses
    c.decide.ensures.count c.decide.ensures.spent
    (λ d decided. λ k ops is.
    asked-is k p t old new d
    (subst (λ (f : File). IsMiterOf f k.goal p t) (sym is.of_file) (c.in_ok-formula.ensures.miter k.goal is.of_goal))
    (subst (λ (f : File). IsRule f k.goal p ↔ IsPlainRule f k.goal p) (sym is.of_file)
    (c.rules_are_plain.ensures k.goal p is.of_goal (c.requires.well_formed k.goal is.of_goal)
    (c.requires.plain k.goal is.of_goal)))
    (c.requires.plain k.goal is.of_goal) decided)
