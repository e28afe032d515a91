use Rattle.std.proofs.Common.{◌∙◌, ◌≤◌, [], ◌++◌, ◌∷◌, List, All, ap, sym, subst, arith}
use Rattle.bv_terms.specs.declared.op.TermId.{TermId}
use Rattle.bv_terms.specs.Table.{Table}
use Rattle.isel_spec.proofs.SpecLemmas.{pointer_is}
use Rattle.loc_encode.specs.Parts.{IsTruthOver}
use Rattle.cegis_loop.proofs.FinderLemmas.{formula-over, finder-start}
use Rattle.cegis_loop.proofs.finder.start_finder.Goals as goal

pub new-terms-requires-clause-wide : goal.new-terms-requires-clause-wide
new-terms-requires-clause-wide c = subst (λ p. 1 ≤ p) (sym c.pointer.ensures) c.len-count.ensures.table.wide

pub new-terms-requires-clause-narrow : goal.new-terms-requires-clause-narrow
new-terms-requires-clause-narrow c = subst (λ p. p ≤ 64) (sym c.pointer.ensures) c.len-count.ensures.table.narrow

pub with_formula-requires-clause-over : goal.with_formula-requires-clause-over
with_formula-requires-clause-over c =
    let kept = c.in_ok-encoded.ensures.kept in
    formula-over c.args.spec.now c.args.goal c.args.multi.now _ c.encode.new.terms kept.goal_is kept.ops_are
    c.in_ok-encoded.ensures.right

pub with_formula-requires-clause-before : goal.with_formula-requires-clause-before
with_formula-requires-clause-before c = λ k claim.
    subst (All (λ (at : TermId). IsTruthOver k c.encode.new.terms at)) (sym c.in_ok-empty.ensures.formulas)
    (λ i d l. absurd (omega (arith, l)))

pub with_formula-requires-clause-right : goal.with_formula-requires-clause-right
with_formula-requires-clause-right c = c.in_ok-empty.ensures.right c.encode.new.terms

pub returns-clause-right : goal.returns-clause-right
returns-clause-right c =
    let kept = c.in_ok-encoded.ensures.kept in
    finder-start c.args.spec.now c.args.goal c.args.multi.now _ kept.goal_is kept.ops_are
    (c.in_ok-encoded.ensures.extends.pointer ∙ ap (λ (table : Table). table.pointer) c.new-terms.ensures
    ∙ c.pointer.ensures ∙ sym (pointer_is c.args.spec.now))
    c.in_ok-encoded.ensures.right c.in_ok-session.ensures.right
    (c.in_ok-session.ensures.formulas
    ∙ ap (λ (fs : List TermId). fs ++ c.in_ok-encoded.encoded.formula ∷ []) c.in_ok-empty.ensures.formulas)
