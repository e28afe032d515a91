use Rattle.std.proofs.Common.{Some, sym, ◌∙◌, arith}
use Rattle.bv_terms.specs.declared.value.Sort.{Sort}
use Rattle.bv_terms.specs.declared.value.Sort.TheVariants as sort
use Rattle.isel_spec.specs.Spec.{file}
use Rattle.pattern_core.specs.declared.pattern.Src.TheVariants.{Input}
use Rattle.pattern_core.specs.Pattern.{source_sort}
use Rattle.pattern_core.proofs.well_formed.have_sorts.Goals as goal
use Rattle.list_lemmas.proofs.Bools.{no_answer, not_by_test as never}
use Rattle.list_lemmas.proofs.Lookups.{same-at, same-more}

pub returns-then-not-has_sort : goal.returns-then-not-has_sort
returns-then-not-has_sort c = λ g h.
    no_answer (λ same. never c.has_sort.result c.if-not-has_sort.true c.has_sort.ensures
    (c.source_sort-found.ensures g h
    ∙ same-at (source_sort (file c.args.spec.now) g c.args.nodes.now c.args.count)
    (λ (s : Sort). Some s) c.args.sources.now c.args.sorts.now c.loop-place.place
    (Input 0) sort.Bool c.loop-place-test.true (omega arith) same))

pub loop-place-preserved : goal.loop-place-preserved
loop-place-preserved c = λ g h.
    same-more (source_sort (file c.args.spec.now) g c.args.nodes.now c.args.count)
    (λ (s : Sort). Some s) c.args.sources.now c.args.sorts.now c.loop-place.place
    (Input 0) sort.Bool c.loop-place-test.true (omega arith)
    (sym (c.source_sort-found.ensures g h) ∙ c.has_sort.ensures.0 c.if-not-has_sort.false) (c.loop-place.invariant g h)
