use Rattle.std.proofs.Common.{◌-◌, ◌+◌, ◌*◌, length, drop, take, map}
use Rattle.bv_terms.specs.Table.{Extends}
use Rattle.sexp_read.specs.Forest.{tree_at, trees_by}
use Rattle.term_text.specs.Scope.{KeepsNames, scope_of}
use Rattle.term_text.proofs.TermSteps.{HasTerms}
use Rattle.term_text.proofs.BindingSteps.{HasBound}
use Rattle.term_text.proofs.walk.Walk.+term.Given as goal

abbrev pub decreases-term : goal.decreases-term
decreases-term l = 8 * (length l.self.now.forest.now.items - l.item)

abbrev pub decreases-terms : goal.decreases-terms
decreases-terms l = 8 * (length l.self.now.forest.now.items - l.list) - 5

abbrev pub decreases-application : goal.decreases-application
decreases-application l = 8 * (length l.self.now.forest.now.items - l.list) - 4

abbrev pub decreases-access : goal.decreases-access
decreases-access l = 8 * (length l.self.now.forest.now.items - l.list) - 3

abbrev pub decreases-binding : goal.decreases-binding
decreases-binding l = 8 * (length l.self.now.forest.now.items - l.list) - 3

abbrev pub decreases-body : goal.decreases-body
decreases-body l = 8 * (length l.self.now.forest.now.items - l.item) + 1

abbrev pub decreases-bound_terms : goal.decreases-bound_terms
decreases-bound_terms l = 8 * (length l.self.now.forest.now.items - l.list) - 5

abbrev pub invariant-terms-loop-item : goal.invariant-terms-loop-item
invariant-terms-loop-item l = record {
  extends : Extends l.fn.terms l.terms;
  names : KeepsNames l.fn.scope l.scope;
  read : HasTerms l.fn.terms.pointer (scope_of l.fn.terms l.fn.scope)
      (trees_by (tree_at l.self.bytes.now l.self.forest.now.items) l.items)
      (trees_by (tree_at l.self.bytes.now l.self.forest.now.items) (drop l.item-index l.items)) l.terms l.args.items;
}

abbrev pub invariant-bound_terms-loop-item : goal.invariant-bound_terms-loop-item
invariant-bound_terms-loop-item l = record {
  extends : Extends l.fn.terms l.terms;
  names : KeepsNames l.fn.scope l.scope;
  read : HasBound l.fn.terms.pointer (scope_of l.fn.terms l.fn.scope)
      (trees_by (tree_at l.self.bytes.now l.self.forest.now.items) l.bindings)
      (trees_by (tree_at l.self.bytes.now l.self.forest.now.items) (drop l.item-index l.bindings))
      (take l.item-index (map (tree_at l.self.bytes.now l.self.forest.now.items) l.bindings)) l.terms l.bound;
}
