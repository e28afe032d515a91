use Rattle.isel_spec.specs.Spec.{file}
use Rattle.pattern_core.proofs.SourceLemmas.{linear_if_once, linear_elsewhere}
use Rattle.list_lemmas.proofs.Bools.{yes_answer, not_by_test as never}
use Rattle.pattern_core.proofs.well_formed.is_linear_at.Goals as goal

pub returns-then-not-has_sort : goal.returns-then-not-has_sort
returns-then-not-has_sort c = λ g there.
    yes_answer (linear_elsewhere (file c.args.spec.now) g c.args.pattern.now c.args.source c.as_slice-nodes.result.now
    c.source_sort-found.result c.as_slice-nodes.ensures (c.source_sort-found.ensures g there)
    (never c.has_sort.result c.if-not-has_sort.true c.has_sort.ensures))

pub returns : goal.returns
returns c = λ g there.
    linear_if_once (file c.args.spec.now) g c.args.pattern.now c.args.source c.as_slice-nodes.result.now
    c.source_sort-found.result c.is_named_once.result c.as_slice-nodes.ensures (c.source_sort-found.ensures g there)
    (c.has_sort.ensures.0 c.if-not-has_sort.false) c.is_named_once.ensures
