use Rattle.std.proofs.Common.{get_or, arith}
use Rattle.std.proofs.lemmas.Option.{slice_get-get_or}
use Rattle.cdcl_base.proofs.MarkLemmas.{number-at, kept-more}
use Rattle.cdcl_base.proofs.analysis.kept_length.Goals as goal

pub offset_bounds-places-variable : goal.offset_bounds-places-variable
offset_bounds-places-variable c =
    let within =
    c.requires (get_or c.args.marked.now c.loop-variable.variable-index 0)
    (number-at c.args.marked.now c.loop-variable.variable-index 0 c.loop-variable-test.true) in
    omega (arith, within, c.type_inv.places)

pub bounds-places-variable : goal.bounds-places-variable
bounds-places-variable c =
    c.requires (get_or c.args.marked.now c.loop-variable.variable-index 0)
    (number-at c.args.marked.now c.loop-variable.variable-index 0 c.loop-variable-test.true)

pub loop-variable-preserved : goal.loop-variable-preserved
loop-variable-preserved c =
    let within =
    c.requires (get_or c.args.marked.now c.loop-variable.variable-index 0)
    (number-at c.args.marked.now c.loop-variable.variable-index 0 c.loop-variable-test.true) in
    kept-more c.args.places.now c.args.end c.args.marked.now c.loop-variable.variable-index 0 c.loop-variable.keep
    (get_or c.args.places.now (get_or c.args.marked.now c.loop-variable.variable-index 0) 0) c.later-keep.result
    c.loop-variable-test.true
    (slice_get-get_or c.args.places.now (get_or c.args.marked.now c.loop-variable.variable-index 0) 0 within)
    c.later-keep.ensures.upper c.later-keep.ensures.after c.later-keep.ensures.found c.loop-variable.invariant
