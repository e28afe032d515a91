use Rattle.std.proofs.Common.{◌≡◌, true, ◌∙◌, subst}
use Rattle.isel_spec.specs.Spec.{file}
use Rattle.pattern_core.specs.declared.pattern.Node.{Node}
use Rattle.pattern_core.specs.Pattern.{IsFitting}
use Rattle.pattern_core.proofs.FitLemmas.{fitting-answer}
use Rattle.std.proofs.lemmas.Option.{get_or_from_slice_get}
use Rattle.pattern_core.proofs.well_formed.is_fitting.Goals as goal

pub returns : goal.returns
returns c = λ g h n at.
    let o = c.op-operation.ensures in
    let item = c.index-nodes-place.result in
    let same : item ≡ n = c.index-nodes-place.is ∙ get_or_from_slice_get c.args.nodes.now c.args.place n item at in
    let here =
    fitting-answer c.args.spec.now g c.args.nodes.now c.args.place c.from-op.result item o.0
    c.op-operation.result.now c.as_slice.result.now c.as_slice-2.result.now c.as_slice-arguments.result.now
    c.as_slice-3.result.now c.have_sorts.result
    c.from-op.ensures o.1 c.as_slice.ensures c.as_slice-2.ensures c.as_slice-arguments.ensures c.as_slice-3.ensures
    (c.are_within.ensures.0 c.if-not-are_within.false) (c.have_sorts.ensures g h) in
    let Answer : Node → Type 0 =
    λ m. (c.have_sorts.result ≡ true → IsFitting (file c.args.spec.now) g c.args.nodes.now c.args.place m)
    × (IsFitting (file c.args.spec.now) g c.args.nodes.now c.args.place m → c.have_sorts.result ≡ true) in
    subst Answer same here
