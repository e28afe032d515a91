use Rattle.std.proofs.lemmas.Option.{slice_get-get_or}
use Rattle.loc_encode.proofs.KindLemmas.{IsMerging-start, IsMerging-kind, IsMerging-more, IsMerging-end}
use Rattle.loc_encode.proofs.lines.line_sources.Goals as goal

pub loop-kind-init : goal.loop-kind-init
loop-kind-init c =
    IsMerging-start c.args.terms.now c.args.line c.args.kinds.now c.new-found.result.items c.requires.table
    c.new-found.ensures.items

pub add_kind-requires-clause-kind : goal.add_kind-requires-clause-kind
add_kind-requires-clause-kind c =
    IsMerging-kind c.args.terms.now c.loop-kind.terms c.args.line c.args.kinds.now c.loop-kind.kind-index
    c.loop-kind.found.items _ c.loop-kind.invariant c.requires.kinds
    (slice_get-get_or c.args.kinds.now c.loop-kind.kind-index _ c.loop-kind-test.true)

pub loop-kind-preserved : goal.loop-kind-preserved
loop-kind-preserved c =
    IsMerging-more c.args.terms.now c.loop-kind.terms c.add_kind.new.terms c.args.line c.args.kinds.now
    c.loop-kind.kind-index c.loop-kind.found.items c.add_kind.new.found.items _ c.loop-kind.invariant c.requires.kinds
    (slice_get-get_or c.args.kinds.now c.loop-kind.kind-index _ c.loop-kind-test.true) c.add_kind.ensures.table
    c.add_kind.ensures.extends c.in_ok-add_kind.ensures.there c.in_ok-add_kind.ensures.found

pub returns-clause-sources : goal.returns-clause-sources
returns-clause-sources c =
    IsMerging-end c.args.terms.now c.loop-kind.terms c.args.line c.args.kinds.now c.loop-kind.kind-index
    c.loop-kind.found.items c.loop-kind.invariant c.loop-kind-test.false
