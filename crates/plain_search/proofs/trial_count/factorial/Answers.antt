use Rattle.std.proofs.Common.{ap, arith, ◌+◌, ◌*◌, ◌∙◌}
use Rattle.plain_search.proofs.TrialLemmas.{factorial-zero, factorial-more, orders_fit}
use Rattle.plain_search.proofs.trial_count.factorial.Goals as goal

pub loop-placed-init : goal.loop-placed-init
loop-placed-init c = factorial-zero

pub overflow_mul-orders : goal.overflow_mul-orders
overflow_mul-orders c =
    let fits = orders_fit c.loop-placed.placed c.loop-placed.orders (omega arith) c.loop-placed.invariant in
    omega (arith, fits)

pub loop-placed-preserved : goal.loop-placed-preserved
loop-placed-preserved c =
    ap (λ n. n * (c.loop-placed.placed + 1)) c.loop-placed.invariant ∙ factorial-more c.loop-placed.placed
