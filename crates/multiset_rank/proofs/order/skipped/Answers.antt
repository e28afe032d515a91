use Rattle.std.proofs.Common.{arith}
use Rattle.multiset_rank.proofs.RisingLemmas.{skipped_fits}
use Rattle.multiset_rank.proofs.order.skipped.Goals as goal

pub overflow_sub-result : goal.overflow_sub-result
overflow_sub-result c =
    let fits = skipped_fits c.args.from c.args.first c.args.kinds c.args.size c.requires.from (omega arith) in
    omega (arith, fits)

pub returns : goal.returns
returns c =
    let fits = skipped_fits c.args.from c.args.first c.args.kinds c.args.size c.requires.from (omega arith) in
    omega (arith, fits)
