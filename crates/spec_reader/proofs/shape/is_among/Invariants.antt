use Rattle.std.proofs.Common.{◌≡◌, drop}
use Rattle.std.specs.List.{list_any}
use Rattle.bv_terms.specs.Table.{term_at}
use Rattle.isel_spec.specs.Memory.{same_term}
use Rattle.term_text.specs.Build.{terms_at}
use Rattle.spec_reader.proofs.shape.is_among.Given as goal

abbrev pub invariant-loop-node : goal.invariant-loop-node
invariant-loop-node l = list_any (same_term (term_at l.terms l.at)) (terms_at l.terms (drop l.node-index l.nodes))
    ≡ list_any (same_term (term_at l.terms l.at)) (terms_at l.terms l.nodes)
