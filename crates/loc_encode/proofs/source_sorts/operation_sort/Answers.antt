use Rattle.isel_spec.proofs.SpecLemmas.{IsSoundResult-op}
use Rattle.pattern_core.proofs.FitLemmas.{operation_sort-is}
use Rattle.loc_encode.proofs.source_sorts.operation_sort.Goals as goal

pub sort-requires : goal.sort-requires
sort-requires c =
    let o = c.op.ensures in
    let sound =
    IsSoundResult-op c.args.spec.now c.from-op.result o.0 c.op.result.now c.as_slice-results.result.now
    c.from-place.result (record { 0 = 0 }) o.1 c.as_slice-results.ensures c.if-place-results.false in
    sound.there

pub returns : goal.returns
returns c =
    let o = c.op.ensures in
    operation_sort-is c.args.spec.now c.args.op c.args.place c.from-op.result c.from-place.result o.0 c.op.result.now
    c.as_slice-results.result.now (record { 0 = 0 }) c.sort.result
    c.from-op.ensures c.from-place.ensures o.1 c.as_slice-results.ensures c.if-place-results.false c.sort.ensures
