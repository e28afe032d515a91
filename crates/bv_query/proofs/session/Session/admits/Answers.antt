use Rattle.std.proofs.Common.{◌∙◌, ◌++◌, ◌∷◌, [], List, IsTrue, ◌↔◌, map, ap, subst}
use Rattle.bv_terms.specs.declared.op.TermId.{TermId}
use Rattle.bv_terms.specs.Table.{term_at}
use Rattle.bv_query.specs.Inputs.{HaveOneSort}
use Rattle.bv_query.specs.Session.{Asserted}
use Rattle.bv_query.proofs.SessionLemmas.{both-tests}
use Rattle.bv_query.proofs.session.Session.admits.Goals as goal

pub returns : goal.returns
returns c =
    let table = c.args.terms.now in
    let same = c.deref.ensures.value ∙ c.in_ok-push.ensures.items
    ∙ ap (λ (fs : List TermId). fs ++ c.args.formula ∷ [])
    (c.in_ok-formulas.ensures.items ∙ c.formulas.ensures ∙ ap (λ (s : Asserted). s.blast.formulas) c.self.view_is) in
    both-tests c.in_ok-is_formula.field-0 c.in_ok-one_sort.one_sort c.if-not-branch.false
    c.in_ok-is_formula.ensures
    (subst (λ (fs : List TermId). IsTrue c.in_ok-one_sort.one_sort ↔ HaveOneSort (map (term_at table) fs)) same
    c.in_ok-one_sort.ensures)
