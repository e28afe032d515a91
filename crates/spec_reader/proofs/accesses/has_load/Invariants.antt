use Rattle.std.proofs.Common.{◌≡◌, drop}
use Rattle.std.specs.List.{list_any}
use Rattle.isel_spec.specs.Memory.{is_load}
use Rattle.term_text.specs.Build.{terms_at}
use Rattle.spec_reader.proofs.accesses.has_load.Given as goal

abbrev pub invariant-loop-at : goal.invariant-loop-at
invariant-loop-at l = list_any is_load (terms_at l.terms (drop l.at-index l.nodes))
    ≡ list_any is_load (terms_at l.terms l.nodes)
