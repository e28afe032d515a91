use Rattle.std.proofs.Common.{◌≡◌, drop}
use Rattle.std.specs.List.{list_any}
use Rattle.bv_terms.specs.Table.{term_at}
use Rattle.bit_blast.specs.Memory.{is_memory}
use Rattle.bit_blast.proofs.formula.has_memory.Given as goal

abbrev pub invariant-loop-at : goal.invariant-loop-at
invariant-loop-at l =
    list_any (λ at. is_memory (term_at l.terms at)) (drop l.at-index l.nodes)
    ≡ list_any (λ at. is_memory (term_at l.terms at)) l.nodes
