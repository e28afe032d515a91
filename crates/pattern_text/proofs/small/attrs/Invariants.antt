use Rattle.std.proofs.Common.{drop, map}
use Rattle.sexp_read.specs.Forest.{tree_at}
use Rattle.pattern_text.specs.Small.{small_attr_in}
use Rattle.pattern_text.proofs.EachLemmas.{EachLeft}
use Rattle.pattern_text.proofs.small.attrs.Given as goal

abbrev pub invariant-loop-item : goal.invariant-loop-item
invariant-loop-item l =
    let tree = tree_at l.bytes l.forest.items in
    EachLeft small_attr_in l.attrs.items (map tree (drop l.item-index l.items)) (map tree l.items)
