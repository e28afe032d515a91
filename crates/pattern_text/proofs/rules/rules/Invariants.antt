use Rattle.std.proofs.Common.{drop, map}
use Rattle.sexp_read.specs.Forest.{tree_at}
use Rattle.isel_spec.specs.Spec.{file}
use Rattle.pattern_text.specs.Small.{IsSoFar}
use Rattle.pattern_text.specs.Index.{IsIndex}
use Rattle.pattern_text.proofs.rules.rules.Given as goal

abbrev pub invariant-loop-item : goal.invariant-loop-item
invariant-loop-item l =
    let tree = tree_at l.bytes l.forest.items in
    record {
      so_far : IsSoFar (file l.spec) l.goal l.size l.before l.rules.items (map tree (drop l.item-index l.items))
          (map tree l.items);
      index : IsIndex l.rules.items l.index.items;
    }
