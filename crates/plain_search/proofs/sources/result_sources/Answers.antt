use Rattle.std.proofs.Common.{map, get_or, ap, ◌∙◌, arith, sym}
use Rattle.std.proofs.lemmas.List.{take_all}
use Rattle.bv_terms.specs.WellSorted.{sort_of}
use Rattle.bv_terms.specs.Table.{term_at}
use Rattle.isel_spec.specs.Spec.{file}
use Rattle.isel_spec.proofs.SpecLemmas.{IsSoundResult-goal, sort_in_file}
use Rattle.plain_search.specs.Patterns.{sources_of}
use Rattle.plain_search.proofs.SourceLemmas.{lists-more, result_there, result_number}
use Rattle.plain_search.proofs.sources.result_sources.Goals as goal

pub sort-sort-requires : goal.sort-sort-requires
sort-sort-requires c =
    let d = c.goal.ensures in
    let sound =
    IsSoundResult-goal c.args.spec.now c.args.goal d.0 c.goal.result.now c.as_slice-at-items.result.now
    c.loop-at.at-index (record { 0 = 0 }) d.1 c.as_slice-at-items.ensures c.loop-at-test.true in
    sound.there

pub loop-at-preserved : goal.loop-at-preserved
loop-at-preserved c = λ g h.
    let d = c.goal.ensures in
    let results = c.as_slice-at-items.result.now in
    let term = term_at c.args.spec.now.terms (get_or results c.loop-at.at-index (record { 0 = 0 })) in
    lists-more (λ t. sources_of (file c.args.spec.now) g c.args.nodes.now (sort_of (file c.args.spec.now).pointer t))
    g.results c.loop-at.at-index term c.loop-at.found.items c.push.new.self.items _
    (result_there c.args.spec.now c.args.goal g d.0 c.goal.result.now results c.loop-at.at-index (record { 0 = 0 })
    d.1 h c.as_slice-at-items.ensures c.loop-at-test.true)
    c.in_ok-push.ensures.items
    (c.in_ok-sources_of.ensures g h ∙ sym (ap (sources_of (file c.args.spec.now) g c.args.nodes.now)
    (sort_in_file c.args.spec.now term ∙ c.sort-sort.ensures))) (c.loop-at.invariant g h)

pub returns : goal.returns
returns c = λ g h.
    let d = c.goal.ensures in
    let count =
    result_number c.args.spec.now c.args.goal g d.0 c.goal.result.now c.as_slice-at-items.result.now d.1 h
    c.as_slice-at-items.ensures in
    c.loop-at.invariant g h
    ∙ ap (map (λ t. sources_of (file c.args.spec.now) g c.args.nodes.now (sort_of (file c.args.spec.now).pointer t)))
    (take_all c.loop-at.at-index g.results (omega (arith, count, c.loop-at-test.false)))
