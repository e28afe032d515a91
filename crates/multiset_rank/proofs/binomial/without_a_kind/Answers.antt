use Rattle.std.proofs.Common.{arith, ◌+◌}
use Rattle.multiset_rank.proofs.CountLemmas.{small_ways, product_fits, next_kind_exact}
use Rattle.multiset_rank.proofs.binomial.without_a_kind.Goals as goal

pub overflow_mul-result : goal.overflow_mul-result
overflow_mul-result c =
    let small = small_ways (c.args.kinds + 1) c.args.size c.args.ways c.requires.ways (omega arith) c.requires.size in
    let fits = product_fits c.args.ways c.from.result small (omega arith) in
    omega (arith, fits)

pub returns : goal.returns
returns c = rw (c.from.ensures, c.from-2.ensures, c.from-3.ensures)
    (next_kind_exact c.args.kinds c.args.size c.args.ways c.requires.some c.requires.ways)
