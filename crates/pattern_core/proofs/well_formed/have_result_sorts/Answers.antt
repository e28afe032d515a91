use Rattle.std.proofs.Common.{length, sym, ◌∙◌, arith}
use Rattle.bv_terms.specs.declared.op.TermId.{TermId}
use Rattle.bv_terms.specs.WellSorted.{sort_of}
use Rattle.bv_terms.specs.Table.{term_at}
use Rattle.isel_spec.specs.Spec.{file}
use Rattle.pattern_core.specs.declared.pattern.Src.TheVariants.{Input}
use Rattle.pattern_core.specs.Pattern.{source_sort}
use Rattle.isel_spec.proofs.SpecLemmas.{IsSoundResult-goal}
use Rattle.pattern_core.proofs.FitLemmas.{goal_sorts}
use Rattle.pattern_core.proofs.well_formed.have_result_sorts.Goals as goal
use Rattle.list_lemmas.proofs.Bools.{no_answer, not_by_test as never, yes_answer}
use Rattle.list_lemmas.proofs.Lists.{same-all}
use Rattle.list_lemmas.proofs.Lookups.{same-at, same-more}

pub sort-requires : goal.sort-requires
sort-requires c =
    let d = c.goal.ensures in
    let sound =
    IsSoundResult-goal c.args.spec.now c.args.goal d.0 c.goal.result.now c.as_slice-results.result.now
    c.loop-place.place (record { 0 = 0 }) d.1 c.as_slice-results.ensures (omega arith) in
    sound.there

pub returns-then-not-has_sort : goal.returns-then-not-has_sort
returns-then-not-has_sort c = λ g h.
    let d = c.goal.ensures in
    let sorts =
    goal_sorts c.args.spec.now c.args.goal d.0 c.goal.result.now g c.as_slice-results.result.now d.1 h
    c.as_slice-results.ensures in
    no_answer (λ same. never c.has_sort.result c.if-not-has_sort.true c.has_sort.ensures
    (c.source_sort-found.ensures g h
    ∙ same-at (source_sort (file c.args.spec.now) g c.args.nodes.now (length c.args.nodes.now))
    (λ (at : TermId). sort_of c.args.spec.now.terms.pointer (term_at c.args.spec.now.terms at)) c.args.sources.now
    c.as_slice-results.result.now
    c.loop-place.place (Input 0) (record { 0 = 0 }) c.loop-place-test.true (omega arith) (same ∙ sorts)
    ∙ c.sort.ensures))

pub loop-place-preserved : goal.loop-place-preserved
loop-place-preserved c = λ g h.
    same-more (source_sort (file c.args.spec.now) g c.args.nodes.now (length c.args.nodes.now))
    (λ (at : TermId). sort_of c.args.spec.now.terms.pointer (term_at c.args.spec.now.terms at)) c.args.sources.now
    c.as_slice-results.result.now
    c.loop-place.place (Input 0) (record { 0 = 0 }) c.loop-place-test.true (omega arith)
    (sym (c.source_sort-found.ensures g h) ∙ c.has_sort.ensures.0 c.if-not-has_sort.false ∙ sym c.sort.ensures)
    (c.loop-place.invariant g h)

pub returns : goal.returns
returns c = λ g h.
    let d = c.goal.ensures in
    let sorts =
    goal_sorts c.args.spec.now c.args.goal d.0 c.goal.result.now g c.as_slice-results.result.now d.1 h
    c.as_slice-results.ensures in
    yes_answer (same-all (source_sort (file c.args.spec.now) g c.args.nodes.now (length c.args.nodes.now))
    (λ (at : TermId). sort_of c.args.spec.now.terms.pointer (term_at c.args.spec.now.terms at)) c.args.sources.now
    c.as_slice-results.result.now
    c.loop-place.place c.loop-place-test.false (omega arith) (c.loop-place.invariant g h) ∙ sym sorts)
