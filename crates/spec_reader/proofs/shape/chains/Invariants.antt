use Rattle.std.proofs.Common.{◌≡◌, ◌++◌, drop}
use Rattle.isel_spec.specs.Memory.{chains}
use Rattle.term_text.specs.Build.{AreNodes, terms_at}
use Rattle.spec_reader.proofs.shape.chains.Given as goal

abbrev pub invariant-loop-at : goal.invariant-loop-at
invariant-loop-at l = record {
  chains : terms_at l.terms l.nodes.items ++ chains (terms_at l.terms (drop l.at-index l.results))
      ≡ chains (terms_at l.terms l.results);
  within : AreNodes l.terms l.nodes.items;
}
