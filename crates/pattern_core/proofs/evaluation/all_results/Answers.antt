use Rattle.std.proofs.Common.{◌≡◌, ◌∙◌, map, Some, sym, ap, subst, slice_get}
use Rattle.std.proofs.lemmas.Option.{slice_get-get_or}
use Rattle.isel_spec.specs.Spec.{file}
use Rattle.pattern_core.specs.declared.pattern.Node.{Node}
use Rattle.pattern_core.specs.Rule.{source_value, op_results}
use Rattle.pattern_core.specs.Meaning.{IsNodeGiven}
use Rattle.pattern_core.proofs.EvalLemmas.{IsNodeGiven-from, some_goal, IsGiven-start, IsGiven-more, IsGiven-end}
use Rattle.pattern_core.proofs.evaluation.all_results.Goals as goal

pub loop-place-init : goal.loop-place-init
loop-place-init c = (
  IsGiven-start c.args.spec.now c.args.goal c.args.nodes.now c.args.inputs.now c.in_ok-outs.outs.items
      c.in_ok-outs.ensures.items c.requires.inputs,
  c.requires.known,
)

pub node_results-requires-clause-given : goal.node_results-requires-clause-given
node_results-requires-clause-given c =
    let nodes = c.args.nodes.now in
    let node = c.index-nodes-place.result in
    let g = some_goal c.args.spec.now c.args.goal c.requires.there in
    let at : slice_get nodes c.loop-place.place ≡ Some node =
    slice_get-get_or nodes c.loop-place.place node c.loop-place-test.true
    ∙ ap (λ (n : Node). Some n) (sym c.index-nodes-place.is) in
    let here : IsNodeGiven c.args.spec.now node c.args.inputs.now c.loop-place.outs.items =
    IsNodeGiven-from c.args.spec.now c.args.goal g.0 nodes c.args.inputs.now c.loop-place.outs.items
    c.loop-place.place node g.1 c.loop-place.invariant.0 (c.requires.fits g.0 g.1) at in
    subst (IsNodeGiven c.args.spec.now node c.args.inputs.now) (sym c.as_slice.ensures.value) here

pub loop-place-preserved : goal.loop-place-preserved
loop-place-preserved c =
    let nodes = c.args.nodes.now in
    let node = c.index-nodes-place.result in
    let g = some_goal c.args.spec.now c.args.goal c.requires.there in
    let at : slice_get nodes c.loop-place.place ≡ Some node =
    slice_get-get_or nodes c.loop-place.place node c.loop-place-test.true
    ∙ ap (λ (n : Node). Some n) (sym c.index-nodes-place.is) in
    let here : IsNodeGiven c.args.spec.now node c.args.inputs.now c.loop-place.outs.items =
    IsNodeGiven-from c.args.spec.now c.args.goal g.0 nodes c.args.inputs.now c.loop-place.outs.items
    c.loop-place.place node g.1 c.loop-place.invariant.0 (c.requires.fits g.0 g.1) at in
    let results =
    c.in_ok-found.ensures.values ∙ ap (λ os. op_results (slice_get (file c.args.spec.now).ops node.op) node.attrs
    (map (source_value c.args.inputs.now os) node.args)) c.as_slice.ensures.value in (
      IsGiven-more c.args.spec.now c.args.goal nodes c.args.inputs.now c.loop-place.outs.items c.loop-place.place node
          c.from_vec.result c.push.new.self.items c.loop-place.invariant.0 at c.loop-place-test.true
          c.index-nodes-place.is
          here
          (c.from_vec.ensures ∙ results) c.in_ok-push.ensures.items,
      c.in_ok-found.ensures.known,
    )

pub node_results-requires-clause-known : goal.node_results-requires-clause-known
node_results-requires-clause-known c = c.loop-place.invariant.1

pub returns-clause-known : goal.returns-clause-known
returns-clause-known c = c.loop-place.invariant.1

pub returns-clause-results : goal.returns-clause-results
returns-clause-results c =
    IsGiven-end c.args.spec.now c.args.goal c.args.nodes.now c.args.inputs.now c.loop-place.outs.items
    c.loop-place.place c.loop-place.invariant.0 c.loop-place-test.false
