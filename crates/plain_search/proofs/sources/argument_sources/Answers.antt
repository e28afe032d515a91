use Rattle.std.proofs.Common.{Some, map, ap, ◌∙◌}
use Rattle.std.proofs.lemmas.List.{take_all}
use Rattle.std.proofs.lemmas.Option.{slice_get-get_or}
use Rattle.bv_terms.specs.declared.value.Sort.TheVariants as sort
use Rattle.isel_spec.specs.Spec.{file}
use Rattle.plain_search.specs.Patterns.{sources_of}
use Rattle.plain_search.proofs.SourceLemmas.{lists-more}
use Rattle.plain_search.proofs.sources.argument_sources.Goals as goal

pub loop-sort-preserved : goal.loop-sort-preserved
loop-sort-preserved c = λ g h.
    lists-more (λ s. sources_of (file c.args.spec.now) g c.args.nodes.now (Some s)) c.args.sorts.now
    c.loop-sort.sort-index _ c.loop-sort.found.items c.push.new.self.items _
    (slice_get-get_or c.args.sorts.now c.loop-sort.sort-index sort.Bool c.loop-sort-test.true)
    c.in_ok-push.ensures.items (c.in_ok-sources_of.ensures g h) (c.loop-sort.invariant g h)

pub returns : goal.returns
returns c = λ g h.
    c.loop-sort.invariant g h
    ∙ ap (map (λ s. sources_of (file c.args.spec.now) g c.args.nodes.now (Some s)))
    (take_all c.loop-sort.sort-index c.args.sorts.now c.loop-sort-test.false)
