use Rattle.std.proofs.Common.{drop, map}
use Rattle.sexp_read.specs.Forest.{tree_at}
use Rattle.isel_spec.specs.Spec.{file}
use Rattle.pattern_text.specs.Small.{small_node_in}
use Rattle.pattern_text.proofs.EachLemmas.{EachLeft}
use Rattle.pattern_text.proofs.small.nodes.Given as goal

abbrev pub invariant-loop-item : goal.invariant-loop-item
invariant-loop-item l =
    let tree = tree_at l.bytes l.forest.items in
    EachLeft (small_node_in (file l.spec)) l.nodes.items (map tree (drop l.item-index l.items)) (map tree l.items)
