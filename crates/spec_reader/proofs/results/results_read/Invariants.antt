use Rattle.std.proofs.Common.{drop, map}
use Rattle.bv_terms.specs.Table.{Extends}
use Rattle.sexp_read.specs.Forest.{tree_at}
use Rattle.term_text.specs.Scope.{terms_under}
use Rattle.spec_reader.proofs.ResultLemmas.{HasResults}
use Rattle.spec_reader.proofs.results.results_read.Given as goal

abbrev pub invariant-loop-item : goal.invariant-loop-item
invariant-loop-item l = record {
  extends : Extends l.fn.terms l.terms;
  read : HasResults l.fn.terms.pointer (terms_under l.fn.terms l.names)
      (map (tree_at l.bytes l.forest.items) l.items)
      (map (tree_at l.bytes l.forest.items) (drop l.item-index l.items)) l.terms l.nodes.items;
}
