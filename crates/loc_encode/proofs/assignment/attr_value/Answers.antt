use Rattle.std.proofs.Common.{slice_get, arith}
use Rattle.loc_encode.proofs.AssignLemmas.{attr-none, attr-past, attr-there}
use Rattle.loc_encode.proofs.assignment.attr_value.Goals as goal

pub returns-then-op-len : goal.returns-then-op-len
returns-then-op-len c =
    attr-none c.args.spec.now (slice_get c.args.nodes.now c.args.line) c.from-op.result c.args.op c.args.place
    c.from-op.ensures (omega arith)

pub returns-then-place-widths : goal.returns-then-place-widths
returns-then-place-widths c =
    let d = c.op.ensures in
    attr-past c.args.spec.now (slice_get c.args.nodes.now c.args.line) c.from-op.result c.args.op c.from-place.result
    c.args.place d.0 c.op.result.now c.as_slice-widths.result.now c.from-op.ensures d.1 c.as_slice-widths.ensures
    c.from-place.ensures (omega arith)

pub returns : goal.returns
returns c =
    let d = c.op.ensures in
    attr-there c.args.spec.now (slice_get c.args.nodes.now c.args.line) c.from-op.result c.args.op c.from-place.result
    c.args.place c.attr_number-number.result d.0 c.op.result.now c.as_slice-widths.result.now c.from-op.ensures d.1
    c.as_slice-widths.ensures c.from-place.ensures (omega arith) c.attr_number-number.ensures
