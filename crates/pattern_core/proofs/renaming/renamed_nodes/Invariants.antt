use Rattle.std.proofs.Common.{◌≡◌, map, take, Some, slice_get, option_map}
use Rattle.pattern_core.specs.declared.pattern.Node.{Node}
use Rattle.pattern_core.specs.Renaming.{renamed_node, place_of}
use Rattle.pattern_core.proofs.renaming.renamed_nodes.Given as goal

abbrev pub invariant-loop-place : goal.invariant-loop-place
invariant-loop-place l =
    map (λ (n : Node). Some n) l.renamed.items
    ≡ map (λ k. option_map (renamed_node (place_of l.order)) (slice_get l.nodes k)) (take l.place l.order)
