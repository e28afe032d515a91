use Rattle.std.proofs.Common.{drop, map}
use Rattle.sexp_read.specs.Forest.{tree_at}
use Rattle.pattern_text.specs.Small.{small_source_in}
use Rattle.pattern_text.proofs.EachLemmas.{EachLeft}
use Rattle.pattern_text.proofs.small.sources.Given as goal

abbrev pub invariant-loop-item : goal.invariant-loop-item
invariant-loop-item l =
    let tree = tree_at l.bytes l.forest.items in
    EachLeft small_source_in l.sources.items (map tree (drop l.item-index l.items)) (map tree l.items)
