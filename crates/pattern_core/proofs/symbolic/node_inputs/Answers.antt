use Rattle.std.proofs.Common.{◌++◌, ◌∙◌, map, ap}
use Rattle.bv_terms.specs.Table.{term_at}
use Rattle.pattern_core.specs.Symbolic.{source_term, attr_terms}
use Rattle.pattern_core.proofs.SymbolicTables.{found-within, found-terms}
use Rattle.pattern_core.proofs.symbolic.node_inputs.Goals as goal

pub add_constants-requires : goal.add_constants-requires
add_constants-requires c = record {
  within = found-within c.args.terms.now c.args.inputs.now c.args.outs.now c.requires.within c.requires.outs_within
      c.as_slice.result.now c.in_ok-nodes.nodes.items c.in_ok-nodes.ensures;
}

pub returns-clause-terms : goal.returns-clause-terms
returns-clause-terms c =
    let old = c.args.terms.now in
    let inputs = c.args.inputs.now in
    let outs = c.args.outs.now in
    let named =
    found-terms old inputs outs c.requires.within c.requires.outs_within c.as_slice.result.now c.in_ok-nodes.nodes.items
    c.in_ok-nodes.ensures in
    let source = source_term (map (term_at old) inputs) (map (map (term_at old)) outs) in
    c.in_ok-add_constants.ensures.terms
    ∙ (λ i. named i ++ attr_terms (c.as_slice-widths.ensures i) (c.as_slice-2.ensures i))
    ∙ ap (λ xs. map source xs ++ attr_terms c.args.operation.now.attrs c.args.node.now.attrs) c.as_slice.ensures
