use Rattle.std.proofs.Common.{ap, arith, length}
use Rattle.isel_spec.proofs.SpecLemmas.{IsSoundOp_at}
use Rattle.loc_encode.proofs.ReadingLemmas.{node-read}
use Rattle.loc_encode.proofs.decoding.node_at.Goals as goal

pub attrs_at-requires : goal.attrs_at-requires
attrs_at-requires c =
    let d = c.op-definition.ensures in
    let sound = IsSoundOp_at c.args.spec.now c.from.result (d.0, c.op-definition.result.now) d.1 in
    let few = sound.few_attrs in
    let same = ap length c.as_slice.ensures in
    omega (arith, few, same)

pub args_at-requires-clause-sorts : goal.args_at-requires-clause-sorts
args_at-requires-clause-sorts c =
    let d = c.op-definition.ensures in
    let sound = IsSoundOp_at c.args.spec.now c.from.result (d.0, c.op-definition.result.now) d.1 in
    let few = sound.few in
    let same = ap length c.as_slice-2.ensures in
    omega (arith, few, same)

pub returns : goal.returns
returns c = λ claim p n is pattern stands prefix at.
    let d = c.op-definition.ensures in
    node-read c.args.spec.now c.args.goal c.args.ops.now claim c.args.values.now p is pattern stands c.args.line n at
    c.args.nodes.now c.requires.after prefix c.op_at-op.result c.from.result d.0 c.op-definition.result.now
    c.from.ensures d.1 c.as_slice.result.now c.as_slice-2.result.now c.as_slice.ensures c.as_slice-2.ensures
    c.op_at-op.ensures.chosen c.in_ok-attrs.attrs c.in_ok-attrs.ensures c.in_ok-args.args c.in_ok-args.ensures
