use Rattle.std.proofs.Common.{◌≡◌, ◌∙◌, map, ap}
use Rattle.std.proofs.lemmas.Result.{IfOk-weaker}
use Rattle.bv_terms.specs.declared.op.TermId.{TermId}
use Rattle.bv_terms.specs.Table.{term_at}
use Rattle.bv_terms.specs.Replaced.{replaced}
use Rattle.pattern_core.proofs.SymbolicTables.{AreGiven, results-in, given-fit, given-results}
use Rattle.pattern_core.proofs.symbolic.node_terms.Goals as goal

pub graft_all-requires-clause-there : goal.graft_all-requires-clause-there
graft_all-requires-clause-there c =
    let o = c.op-operation.ensures in
    results-in c.args.spec.now o.0 c.op-operation.result.now c.as_slice-results.result.now c.from.result o.1
    c.as_slice-results.ensures

pub graft_all-requires-clause-fit : goal.graft_all-requires-clause-fit
graft_all-requires-clause-fit c =
    let o = c.op-operation.ensures in
    let spec = c.args.spec.now in
    let node = c.args.node.now in
    let old = c.args.terms.now in
    let table = c.node_inputs.new.terms in
    let inputs = c.args.inputs.now in
    let outs = c.args.outs.now in
    let given = c.deref.result.now in
    let are : AreGiven spec node old table inputs outs c.op-operation.result.now given = record {
      ready = c.requires.ready;
      extends = c.in_ok-given.ensures.extends;
      terms = ap (map (term_at table)) c.deref.ensures.value ∙ c.in_ok-given.ensures.terms;
    } in
    given-fit spec node old table inputs outs o.0 c.op-operation.result.now given c.as_slice-results.result.now
    c.from.result are c.from.ensures o.1 c.as_slice-results.ensures

pub returns-clause-terms : goal.returns-clause-terms
returns-clause-terms c =
    let o = c.op-operation.ensures in
    let spec = c.args.spec.now in
    let node = c.args.node.now in
    let old = c.args.terms.now in
    let table = c.node_inputs.new.terms in
    let inputs = c.args.inputs.now in
    let outs = c.args.outs.now in
    let given = c.deref.result.now in
    let results = c.as_slice-results.result.now in
    let are : AreGiven spec node old table inputs outs c.op-operation.result.now given = record {
      ready = c.requires.ready;
      extends = c.in_ok-given.ensures.extends;
      terms = ap (map (term_at table)) c.deref.ensures.value ∙ c.in_ok-given.ensures.terms;
    } in
    IfOk-weaker c.graft_all.result
    (λ v. map (term_at c.graft_all.new.terms) v.items
    ≡ map (λ (a : TermId). replaced (map (term_at table) given) (term_at spec.terms a)) results) _
    (λ v is. is ∙ given-results spec node old table inputs outs o.0 c.op-operation.result.now given results
    c.from.result are c.from.ensures o.1 c.as_slice-results.ensures)
    c.graft_all.ensures.terms
