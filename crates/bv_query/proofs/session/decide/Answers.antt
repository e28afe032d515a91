use Rattle.std.proofs.Common.{◌∙◌, ◌++◌, ◌∷◌, [], List, map, sym, ap, subst}
use Rattle.std.specs.Prelude.{IfOk}
use Rattle.bv_terms.specs.declared.op.TermId.{TermId}
use Rattle.bv_terms.specs.Table.{term_at}
use Rattle.bv_query.specs.Inputs.{HaveOneSort}
use Rattle.bv_query.specs.Decision.{OnNo, HaveNoWitness}
use Rattle.bv_query.proofs.session.decide.Goals as goal

pub assert-requires-clause-right : goal.assert-requires-clause-right
assert-requires-clause-right c = c.in_ok-session.ensures.right c.args.terms.now

pub assert-requires-clause-one_sort : goal.assert-requires-clause-one_sort
assert-requires-clause-one_sort c =
    let table = c.args.terms.now in
    subst (λ (fs : List TermId). HaveOneSort (map (term_at table) (fs ++ c.args.formula ∷ [])))
    (sym c.in_ok-session.ensures.formulas) c.requires.one_sort

pub returns-clause-no : goal.returns-clause-no
returns-clause-no c =
    let table = c.args.terms.now in
    let same = c.in_ok-session-2.ensures.formulas
    ∙ ap (λ (fs : List TermId). fs ++ c.args.formula ∷ []) c.in_ok-session.ensures.formulas in
    subst (λ (fs : List TermId). IfOk c.decide.result (λ d. OnNo d (λ r. HaveNoWitness (map (term_at table) fs)))) same
    c.decide.ensures.no
