use Rattle.std.proofs.Common.{◌≡◌, ◌<◌, ◌++◌, length}
use Rattle.bv_terms.specs.Table.{term_at}
use Rattle.isel_spec.specs.Memory.{chain}
use Rattle.term_text.specs.Build.{AreNodes, terms_at}
use Rattle.spec_reader.proofs.shape.add_chain.Given as goal

abbrev pub invariant-loop-memory : goal.invariant-loop-memory
invariant-loop-memory l = record {
  chain : terms_at l.terms l.nodes.items ++ chain (term_at l.terms l.at)
      ≡ terms_at l.terms l.fn.nodes.items ++ chain (term_at l.terms l.fn.from);
  within : AreNodes l.terms l.nodes.items;
  at_in : l.at.0 < length l.terms.nodes;
}

abbrev pub decreases-loop-memory : goal.decreases-loop-memory
decreases-loop-memory l = l.at.0
