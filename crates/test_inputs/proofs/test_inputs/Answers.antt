use Rattle.bv_terms.specs.declared.value.Sort.TheVariants as sort
use Rattle.test_inputs.proofs.InputLemmas.{HaveSorts-more}
use Rattle.test_inputs.proofs.test_inputs.Goals as goal

pub loop-place-preserved : goal.loop-place-preserved
loop-place-preserved c =
    HaveSorts-more c.args.sorts.now c.loop-place.values.items c.push.new.self.items c.loop-place.place c.fitted.result
    sort.Bool c.loop-place.invariant c.loop-place-test.true c.fitted.ensures c.in_ok-push.ensures.items
