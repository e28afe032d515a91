use Rattle.std.proofs.Common.{◌∙◌, map, List}
use Rattle.list_lemmas.proofs.Lookups.{Contains-at}
use Rattle.isel_spec.specs.Spec.{file}
use Rattle.loc_encode.specs.Lines.{Sourced, sourced, IsIn, of_kind}
use Rattle.loc_encode.specs.Making.{IsKindIn}
use Rattle.loc_encode.proofs.GrowthLemmas.{sources_keep, all-stay}
use Rattle.loc_encode.proofs.GrowthLemmas.{IsListing-none, IsListing-several, IsListing-end}
use Rattle.loc_encode.proofs.FrontLemmas.{op-front, op-end, op-moved}
use Rattle.loc_encode.proofs.lines.line_kinds.Goals as goal

pub loop-op-init : goal.loop-op-init
loop-op-init c =
    IsListing-none IsKindIn of_kind c.args.terms.now c.new-kinds.result.items _ c.requires.table
    c.new-kinds.ensures.items

pub add_op-requires-clause-there : goal.add_op-requires-clause-there
add_op-requires-clause-there c =
    c.requires.ops.there _ (Contains-at c.args.ops.now c.loop-op.op-index 0 c.loop-op-test.true)

pub add_op-requires-clause-plain : goal.add_op-requires-clause-plain
add_op-requires-clause-plain c =
    λ o e. c.requires.ops.plain _ o (Contains-at c.args.ops.now c.loop-op.op-index 0 c.loop-op-test.true) e

pub add_op-requires-clause-sources : goal.add_op-requires-clause-sources
add_op-requires-clause-sources c =
    all-stay IsIn sourced sources_keep c.args.terms.now c.loop-op.terms c.loop-op.invariant.extends c.args.sources.now
    c.requires.sources

pub loop-op-preserved : goal.loop-op-preserved
loop-op-preserved c =
    let old = c.args.terms.now in
    let f = file c.args.spec.now in
    let sources : List Sourced = map (sourced old) c.args.sources.now in
    IsListing-several IsKindIn of_kind old c.loop-op.terms c.add_op.new.terms c.loop-op.kinds.items
    c.add_op.new.kinds.items _ _ _ _ c.loop-op.invariant
    (op-front f c.args.line sources c.args.ops.now c.loop-op.op-index 0 c.loop-op-test.true) c.add_op.ensures.table
    c.add_op.ensures.extends c.in_ok-add_op.ensures.there
    (c.in_ok-add_op.ensures.kinds ∙ op-moved old c.loop-op.terms c.loop-op.kinds.items c.args.sources.now f c.args.line
    _ c.loop-op.invariant.extends c.requires.sources)

pub returns-clause-kinds : goal.returns-clause-kinds
returns-clause-kinds c =
    let old = c.args.terms.now in
    let sources : List Sourced = map (sourced old) c.args.sources.now in
    IsListing-end IsKindIn of_kind old c.loop-op.terms c.loop-op.kinds.items _ _ c.loop-op.invariant
    (op-end (file c.args.spec.now) c.args.line sources c.args.ops.now c.loop-op.op-index c.loop-op-test.false)
