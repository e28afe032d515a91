use Rattle.std.proofs.Common.{◌≡◌, ◌∙◌, ◌∷◌, [], Some, ap, get_or, length, slice_get, arith}
use Rattle.std.proofs.lemmas.List.{length-append, take_all}
use Rattle.std.proofs.lemmas.Option.{slice_get-get_or}
use Rattle.pattern_core.specs.declared.pattern.Node.{Node}
use Rattle.loc_encode.proofs.PatternLemmas.{size-of}
use Rattle.loc_encode.proofs.ReadingLemmas.{take-with}
use Rattle.loc_encode.proofs.decoding.nodes_at.Goals as goal

pub loop-line-preserved : goal.loop-line-preserved
loop-line-preserved c =
    let node = c.in_ok-node.node in
    let line = c.loop-line.line in
    let was = c.loop-line.invariant.0 in
    let long = length-append c.loop-line.nodes.items (node ∷ []) in
    let same = ap length c.in_ok-push.ensures.items in (
      omega (arith, was, long, same),
      λ claim p is pattern stands.
          let size = size-of claim p pattern in
          let count = ap length is.of_ops in
          let before = c.loop-line.invariant.1 claim p is pattern stands in
          let within = c.loop-line-test.true in
          let n : Node = get_or p.nodes line node in
          let at : slice_get p.nodes line ≡ Some n =
          slice_get-get_or p.nodes line node (omega (arith, size, count, within)) in
          c.in_ok-push.ensures.items
          ∙ take-with p.nodes c.loop-line.nodes.items line n node at
          (c.in_ok-node.ensures claim p n is pattern stands (c.as_slice.ensures.value ∙ before) at) before,
    )

pub returns-clause-nodes : goal.returns-clause-nodes
returns-clause-nodes c = λ claim p is pattern stands.
    let size = size-of claim p pattern in
    let count = ap length is.of_ops in
    let past = c.loop-line-test.false in
    c.loop-line.invariant.1 claim p is pattern stands
    ∙ take_all c.loop-line.line p.nodes (omega (arith, size, count, past))
