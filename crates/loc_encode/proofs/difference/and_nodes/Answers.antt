use Rattle.std.proofs.Common.{◌≡◌, ◌∙◌, Some, sym, ap, arith, slice_get}
use Rattle.std.proofs.lemmas.Option.{slice_get-get_or}
use Rattle.bv_terms.proofs.GraftLemmas.{Extends-further}
use Rattle.isel_spec.specs.Spec.{file}
use Rattle.pattern_core.specs.declared.pattern.Node.{Node}
use Rattle.loc_encode.specs.Matching.{MatchesNode}
use Rattle.loc_encode.proofs.ConditionLemmas.{below-more, below-whole}
use Rattle.loc_encode.proofs.difference.and_nodes.Goals as goal

pub and_node-requires-clause-sized : goal.and_node-requires-clause-sized
and_node-requires-clause-sized c =
    let node = c.index-nodes-line.result in
    let at : slice_get c.args.nodes.now c.loop-line.line ≡ Some node =
    slice_get-get_or c.args.nodes.now c.loop-line.line node c.loop-line-test.true
    ∙ ap (λ (n : Node). Some n) (sym c.index-nodes-line.is) in
    c.requires.sized c.loop-line.line node at

pub loop-line-preserved : goal.loop-line-preserved
loop-line-preserved c =
    let nodes = c.args.nodes.now in
    let line = c.loop-line.line in
    let node = c.index-nodes-line.result in
    let at : slice_get nodes line ≡ Some node =
    slice_get-get_or nodes line node c.loop-line-test.true ∙ ap (λ (n : Node). Some n) (sym c.index-nodes-line.is) in (
      Extends-further c.args.terms.now c.loop-line.terms c.and_node.new.terms c.loop-line.invariant.0
          c.and_node.ensures.extends,
      c.in_ok-all.ensures.there,
      λ claim same slots.
          below-more claim c.args.terms.now c.loop-line.terms c.and_node.new.terms c.args.earlier c.loop-line.all
          c.in_ok-all.all (λ k m. MatchesNode (file c.args.spec.now) k m) nodes line node at
          (c.loop-line.invariant.2 claim same slots) (c.in_ok-all.ensures.both claim same (slots line node at)),
    )

pub returns-clause-both : goal.returns-clause-both
returns-clause-both c = λ claim same slots.
    below-whole claim c.args.terms.now c.loop-line.terms c.args.earlier c.loop-line.all
    (λ k m. MatchesNode (file c.args.spec.now) k m) c.args.nodes.now c.loop-line.line (omega arith)
    (c.loop-line.invariant.2 claim same slots)
