use Rattle.std.proofs.Common.{◌∙◌, ◌<◌, ◌++◌, ◌∷◌, [], All, sym, ap, subst}
use Rattle.cnf_core.specs.Formula.{Formula}
use Rattle.bit_blast.specs.Blast.{Continues}
use Rattle.bv_query.specs.Session.{Asserted}
use Rattle.bv_query.proofs.SessionLemmas.{right-more}
use Rattle.bv_query.proofs.ValueLemmas.{Listed}
use Rattle.bv_query.proofs.session.Session.assert.Goals as goal

pub set_phases-requires : goal.set_phases-requires
set_phases-requires c =
    let clauses = c.blasted-blasted.ensures.clauses c.args.terms.now c.in_ok-blaster.ensures.right in
    subst (λ (f : Formula). All (λ (b : Listed). b.2 < f.variables) c.as_slice.result.now)
    (sym c.in_ok-hand_over.ensures)
    (subst (All (λ (b : Listed). b.2 < c.blasted-blasted.result.now.cnf.variables)) (sym c.as_slice.ensures)
    clauses.variables)

pub returns-clause-right : goal.returns-clause-right
returns-clause-right c =
    right-more c.args.terms.now c.args.self c.requires.right c.args.formula c.requires.truth c.requires.one_sort
    c.in_ok-blaster.blaster c.in_ok-blaster.ensures.right
    (c.in_ok-blaster.ensures.formulas
    ∙ ap (λ (s : Asserted). s.blast.formulas ++ c.args.formula ∷ []) c.self.view_is)
    c.set_phases.new.solver
    (c.set_phases.ensures ∙ c.in_ok-hand_over.ensures ∙ c.blasted-blasted.ensures.cnf)

pub returns-clause-continues : goal.returns-clause-continues
returns-clause-continues c =
    subst (λ (s : Asserted). Continues s.blast.netlist c.in_ok-blaster.blaster.netlist) c.self.view_is
    c.in_ok-blaster.ensures.continues
