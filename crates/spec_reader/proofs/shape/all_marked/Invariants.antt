use Rattle.std.proofs.Common.{◌≡◌, drop}
use Rattle.std.specs.List.{list_all}
use Rattle.isel_spec.specs.Memory.{is_marked}
use Rattle.term_text.specs.Build.{terms_at}
use Rattle.spec_reader.proofs.shape.all_marked.Given as goal

abbrev pub invariant-loop-at : goal.invariant-loop-at
invariant-loop-at l = list_all (is_marked (terms_at l.terms l.memories)) (terms_at l.terms (drop l.at-index l.nodes))
    ≡ list_all (is_marked (terms_at l.terms l.memories)) (terms_at l.terms l.nodes)
