use Rattle.std.proofs.Common.{◌≡◌, ℕ, ◌<◌, refl, sym, ap, ◌∙◌, get_or, slice_get, List, Option, Some, option_map}
use Rattle.std.proofs.Common.{length, map}
use Rattle.std.proofs.lemmas.Option.{slice_get_read, slice_get-get_or}
use Rattle.pattern_core.specs.declared.pattern.Node.{Node}
use Rattle.pattern_core.specs.Renaming.{renamed_node, place_of}
use Rattle.pattern_core.proofs.RenamingLemmas.{placed_more}
use Rattle.pattern_core.proofs.renaming.renamed_nodes.Goals as goal

pub loop-place-preserved : goal.loop-place-preserved
loop-place-preserved c =
    let order = c.args.order.now in
    let nodes = c.args.nodes.now in
    let i = c.loop-place.place in
    let number : ℕ = get_or order i 0 in
    let n : Node = c.index-nodes-from.result in
    let m : Node = c.in_ok-renamed_node.field-0 in
    let F : ℕ → Option Node = λ k. option_map (renamed_node (place_of order)) (slice_get nodes k) in
    let within : number < length nodes =
    c.requires.there i number (slice_get-get_or order i 0 c.loop-place-test.true) in
    let at : slice_get nodes number ≡ Some n =
    slice_get_read nodes (length nodes) number n refl within
    (c.index-nodes-from.is ∙ ap (λ k. get_or nodes k n) c.from.ensures) in
    let made : F number ≡ Some m =
    ap (option_map (renamed_node (place_of order))) at ∙ ap (λ x. Some x) (sym c.in_ok-renamed_node.ensures) in
    ap (λ (ns : List Node). map (λ (x : Node). Some x) ns) c.in_ok-push.ensures.items
    ∙ placed_more F order i c.loop-place.renamed.items m c.loop-place-test.true c.loop-place.invariant made
