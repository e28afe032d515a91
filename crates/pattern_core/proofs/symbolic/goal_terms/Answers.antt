use Rattle.std.proofs.Common.{◌≡◌, ◌∙◌, map}
use Rattle.std.proofs.lemmas.Result.{IfOk-weaker}
use Rattle.bv_terms.specs.declared.op.TermId.{TermId}
use Rattle.bv_terms.specs.Table.{term_at}
use Rattle.bv_terms.specs.Replaced.{replaced}
use Rattle.pattern_core.proofs.SymbolicTables.{CanPlace, goal-in, goal-fit, goal-placed, goal-meaning}
use Rattle.pattern_core.proofs.symbolic.goal_terms.Goals as goal

pub graft_all-requires-clause-there : goal.graft_all-requires-clause-there
graft_all-requires-clause-there c =
    let d = c.goal-definition.ensures in
    goal-in c.args.spec.now c.args.goal d.0 c.goal-definition.result.now c.as_slice-results.result.now d.1
    c.as_slice-results.ensures

pub graft_all-requires-clause-fit : goal.graft_all-requires-clause-fit
graft_all-requires-clause-fit c =
    let d = c.goal-definition.ensures in
    let can : CanPlace c.args.spec.now c.args.goal c.args.terms.now c.args.inputs.now =
    record { is_other = c.len-2.ensures.table; pointer = c.requires.pointer; sorts = c.requires.sorts } in
    goal-fit c.args.spec.now c.args.goal c.args.terms.now c.args.inputs.now d.0 c.goal-definition.result.now
    c.as_slice-results.result.now can d.1 c.as_slice-results.ensures

pub returns-clause-terms : goal.returns-clause-terms
returns-clause-terms c =
    let d = c.goal-definition.ensures in
    let spec = c.args.spec.now in
    let old = c.args.terms.now in
    let inputs = c.args.inputs.now in
    let results = c.as_slice-results.result.now in
    IfOk-weaker c.graft_all.result
    (λ v. map (term_at c.graft_all.new.terms) v.items
    ≡ map (λ (a : TermId). replaced (map (term_at old) inputs) (term_at spec.terms a)) results) _
    (λ v is g h. is ∙ goal-placed spec c.args.goal old inputs d.0 c.goal-definition.result.now g results d.1 h
    c.as_slice-results.ensures)
    c.graft_all.ensures.terms

pub returns-clause-meaning : goal.returns-clause-meaning
returns-clause-meaning c =
    let d = c.goal-definition.ensures in
    let spec = c.args.spec.now in
    let old = c.args.terms.now in
    let inputs = c.args.inputs.now in
    let results = c.as_slice-results.result.now in
    let can : CanPlace spec c.args.goal old inputs =
    record { is_other = c.len-2.ensures.table; pointer = c.requires.pointer; sorts = c.requires.sorts } in
    IfOk-weaker c.graft_all.result
    (λ v. map (term_at c.graft_all.new.terms) v.items
    ≡ map (λ (a : TermId). replaced (map (term_at old) inputs) (term_at spec.terms a)) results) _
    (λ v is g h. goal-meaning spec c.args.goal old inputs g (map (term_at c.graft_all.new.terms) v.items) can h
    (is ∙ goal-placed spec c.args.goal old inputs d.0 c.goal-definition.result.now g results d.1 h
    c.as_slice-results.ensures))
    c.graft_all.ensures.terms
