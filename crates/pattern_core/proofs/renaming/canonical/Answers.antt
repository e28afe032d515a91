use Rattle.std.proofs.Common.{◌∙◌, arith}
use Rattle.pattern_core.specs.declared.pattern.Pattern.{Pattern}
use Rattle.pattern_core.proofs.OrderOfWalk.{order_of, IsOrder-of_walk}
use Rattle.pattern_core.proofs.RenamingLemmas.{IsPlaced, IsPlaced-from_parts, order-short, order-within}
use Rattle.pattern_core.proofs.RenamingLemmas.{IsRenaming-placed, IsCanonical-placed, only_one}
use Rattle.pattern_core.proofs.FormLemmas.{IsWellFormed-placed}
use Rattle.pattern_core.proofs.renaming.canonical.Goals as goal

pub renamed_nodes-requires-clause-few : goal.renamed_nodes-requires-clause-few
renamed_nodes-requires-clause-few c =
    let p = c.args.pattern in
    let w = c.requires.well_formed.2 in
    let o = IsOrder-of_walk p c.requires.forward w.used in
    let short =
    order-short p c.as_slice-order.result.now (c.as_slice-order.ensures.value ∙ c.in_ok-left.ensures) o in
    let few = w.size in
    omega (arith, short, few)

pub renamed_nodes-requires-clause-there : goal.renamed_nodes-requires-clause-there
renamed_nodes-requires-clause-there c =
    let p = c.args.pattern in
    let w = c.requires.well_formed.2 in
    order-within p c.as_slice-order.result.now c.as_slice.result.now
    (c.as_slice-order.ensures.value ∙ c.in_ok-left.ensures) c.as_slice.ensures
    (IsOrder-of_walk p c.requires.forward w.used)

pub renamed_sources-requires : goal.renamed_sources-requires
renamed_sources-requires c =
    let p = c.args.pattern in
    let w = c.requires.well_formed.2 in
    let o = IsOrder-of_walk p c.requires.forward w.used in
    let short =
    order-short p c.as_slice-order.result.now (c.as_slice-order.ensures.value ∙ c.in_ok-left.ensures) o in
    let few = w.size in
    omega (arith, short, few)

pub returns-clause-renaming : goal.returns-clause-renaming
returns-clause-renaming c =
    let p = c.args.pattern in
    let q : Pattern = record { nodes = c.in_ok-nodes.nodes; results = c.in_ok-results.results } in
    let w = c.requires.well_formed.2 in
    let placed : IsPlaced p (order_of p) q =
    IsPlaced-from_parts p c.as_slice-order.result.now c.as_slice.result.now c.as_slice-2.result.now q
    (c.as_slice-order.ensures.value ∙ c.in_ok-left.ensures) c.as_slice.ensures c.as_slice-2.ensures
    c.in_ok-nodes.ensures c.in_ok-results.ensures in
    IsRenaming-placed p (order_of p) q (IsOrder-of_walk p c.requires.forward w.used) placed

pub returns-clause-canonical : goal.returns-clause-canonical
returns-clause-canonical c =
    let p = c.args.pattern in
    let q : Pattern = record { nodes = c.in_ok-nodes.nodes; results = c.in_ok-results.results } in
    let w = c.requires.well_formed.2 in
    let placed : IsPlaced p (order_of p) q =
    IsPlaced-from_parts p c.as_slice-order.result.now c.as_slice.result.now c.as_slice-2.result.now q
    (c.as_slice-order.ensures.value ∙ c.in_ok-left.ensures) c.as_slice.ensures c.as_slice-2.ensures
    c.in_ok-nodes.ensures c.in_ok-results.ensures in
    IsCanonical-placed p q c.requires.forward (IsOrder-of_walk p c.requires.forward w.used) placed

pub returns-clause-well_formed : goal.returns-clause-well_formed
returns-clause-well_formed c =
    let p = c.args.pattern in
    let q : Pattern = record { nodes = c.in_ok-nodes.nodes; results = c.in_ok-results.results } in
    let o = IsOrder-of_walk p c.requires.forward c.requires.well_formed.2.used in
    let placed : IsPlaced p (order_of p) q =
    IsPlaced-from_parts p c.as_slice-order.result.now c.as_slice.result.now c.as_slice-2.result.now q
    (c.as_slice-order.ensures.value ∙ c.in_ok-left.ensures) c.as_slice.ensures c.as_slice-2.ensures
    c.in_ok-nodes.ensures c.in_ok-results.ensures in
    λ f g w. IsWellFormed-placed f g p q c.requires.forward o placed w

pub returns-clause-only : goal.returns-clause-only
returns-clause-only c =
    let p = c.args.pattern in
    let q : Pattern = record { nodes = c.in_ok-nodes.nodes; results = c.in_ok-results.results } in
    let w = c.requires.well_formed.2 in
    let o = IsOrder-of_walk p c.requires.forward w.used in
    let placed : IsPlaced p (order_of p) q =
    IsPlaced-from_parts p c.as_slice-order.result.now c.as_slice.result.now c.as_slice-2.result.now q
    (c.as_slice-order.ensures.value ∙ c.in_ok-left.ensures) c.as_slice.ensures c.as_slice-2.ensures
    c.in_ok-nodes.ensures c.in_ok-results.ensures in
    λ r k canonical.
    only_one p q r (IsRenaming-placed p (order_of p) q o placed) k c.requires.forward o
    (IsCanonical-placed p q c.requires.forward o placed) canonical
