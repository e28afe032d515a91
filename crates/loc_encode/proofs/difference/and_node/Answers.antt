use Rattle.std.proofs.Common.{◌∙◌, List, refl, sym, ap, slice_get, arith}
use Rattle.std.proofs.lemmas.Result.{IfOk-weaker}
use Rattle.pattern_core.specs.declared.pattern.Src.{Src}
use Rattle.loc_encode.proofs.DifferenceLemmas.{widths-count, node-both}
use Rattle.loc_encode.proofs.difference.and_node.Goals as goal

pub and_attrs-requires-clause-few : goal.and_attrs-requires-clause-few
and_attrs-requires-clause-few c =
    let d = c.op.ensures in
    let count =
    widths-count c.args.spec.now c.args.node.now c.from.result d.0 c.op.result.now c.as_slice-widths.result.now
    c.args.node.now.attrs c.from.ensures d.1 c.as_slice-widths.ensures refl c.requires.sized in
    let few = c.requires.sized.attrs in
    omega (arith, count, few)

pub and_attrs-requires-clause-same : goal.and_attrs-requires-clause-same
and_attrs-requires-clause-same c =
    let d = c.op.ensures in
    widths-count c.args.spec.now c.args.node.now c.from.result d.0 c.op.result.now c.as_slice-widths.result.now
    c.as_slice.result.now c.from.ensures d.1 c.as_slice-widths.ensures c.as_slice.ensures c.requires.sized

pub returns-clause-both : goal.returns-clause-both
returns-clause-both c = λ claim same slots.
    let d = c.op.ensures in
    IfOk-weaker c.and_args.result _ _
    (λ at third. node-both c.args.spec.now c.args.node.now c.from.result d.0 c.op.result.now
    c.as_slice-widths.result.now c.as_slice.result.now c.as_slice-2.result.now c.from.ensures d.1
    c.as_slice-widths.ensures c.as_slice.ensures c.as_slice-2.ensures c.args.line claim same slots c.args.terms.now
    c.and_choice.new.terms c.and_attrs.new.terms c.and_args.new.terms c.args.earlier c.in_ok-kind.kind
    c.in_ok-attributes.attributes at (c.in_ok-kind.ensures.both claim slots.kind)
    (λ each. c.in_ok-attributes.ensures.both claim each) (λ each. third))
    (c.and_args.ensures.both claim (λ j x e.
    slots.args j x (ap (λ (xs : List Src). slice_get xs j) (sym c.as_slice-2.ensures) ∙ e)))
