use Rattle.std.proofs.Common.{◌≡◌, take}
use Rattle.std.specs.List.{filter_map}
use Rattle.bv_terms.specs.Table.{term_at}
use Rattle.bv_query.specs.Inputs.{input_of}
use Rattle.bv_query.proofs.inputs.inputs_of.Given as goal

abbrev pub invariant-loop-at : goal.invariant-loop-at
invariant-loop-at l =
    l.inputs.items ≡ filter_map (λ at. input_of (term_at l.terms at)) (take l.at-index l.at-items)
