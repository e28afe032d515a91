use Rattle.std.proofs.Common.{◌≡◌, ◌+◌, ◌≤◌, drop, filter, length}
use Rattle.isel_spec.specs.Memory.{is_memory}
use Rattle.term_text.specs.Build.{terms_at}
use Rattle.spec_reader.proofs.shape.memories_given.Given as goal

abbrev pub invariant-loop-at : goal.invariant-loop-at
invariant-loop-at l = record {
  count : l.given + length (filter is_memory (terms_at l.terms (drop l.at-index l.results)))
      ≡ length (filter is_memory (terms_at l.terms l.results));
  few : l.given ≤ l.at-index;
}
