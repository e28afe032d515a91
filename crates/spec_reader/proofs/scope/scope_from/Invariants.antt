use Rattle.std.proofs.Common.{drop}
use Rattle.bv_terms.specs.Table.{Extends}
use Rattle.sexp_read.specs.Forest.{tree_at}
use Rattle.spec_reader.proofs.ScopeLemmas.{HasScope}
use Rattle.spec_reader.proofs.scope.scope_from.Given as goal

abbrev pub invariant-loop-place : goal.invariant-loop-place
invariant-loop-place l = record {
  extends : Extends l.fn.terms l.terms;
  scope : HasScope (tree_at l.bytes l.forest.items) l.params (drop l.place l.params) l.place l.terms l.names;
}
