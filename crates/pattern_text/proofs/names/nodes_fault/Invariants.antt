use Rattle.std.proofs.Common.{◌≡◌, drop, map}
use Rattle.sexp_read.specs.Forest.{tree_at}
use Rattle.isel_spec.specs.Spec.{file}
use Rattle.pattern_text.specs.Small.{nodes_fault}
use Rattle.pattern_text.proofs.names.nodes_fault.Given as goal

abbrev pub invariant-loop-item : goal.invariant-loop-item
invariant-loop-item l =
    let tree = tree_at l.bytes l.forest.items in
    nodes_fault (file l.spec) (map tree (drop l.item-index l.items)) ≡ nodes_fault (file l.spec) (map tree l.items)
