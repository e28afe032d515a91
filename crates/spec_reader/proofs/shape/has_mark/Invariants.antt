use Rattle.std.proofs.Common.{◌≡◌, drop}
use Rattle.std.specs.List.{list_any}
use Rattle.bv_terms.specs.Table.{term_at}
use Rattle.isel_spec.specs.Memory.{marks}
use Rattle.term_text.specs.Build.{terms_at}
use Rattle.spec_reader.proofs.shape.has_mark.Given as goal

abbrev pub invariant-loop-at : goal.invariant-loop-at
invariant-loop-at l =
    let is_mark = marks l.bytes (term_at l.terms l.pointer) in
    list_any is_mark (terms_at l.terms (drop l.at-index l.memories)) ≡ list_any is_mark (terms_at l.terms l.memories)
