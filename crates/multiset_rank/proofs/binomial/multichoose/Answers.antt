use Rattle.std.proofs.Common.{arith, sym, ◌+◌}
use Rattle.multiset_rank.proofs.CountLemmas.{multichoose-zero, small_ways, product_fits, next_size_exact}
use Rattle.multiset_rank.proofs.binomial.multichoose.Goals as goal

pub loop-chosen-init : goal.loop-chosen-init
loop-chosen-init c = sym (multichoose-zero c.args.kinds)

pub overflow_mul-ways : goal.overflow_mul-ways
overflow_mul-ways c =
    let small = small_ways c.args.kinds c.loop-chosen.chosen c.loop-chosen.ways c.loop-chosen.invariant c.requires.kinds
    (omega arith) in
    let fits = product_fits c.loop-chosen.ways (c.from.result + c.from-in-loop-chosen.result) small (omega arith) in
    omega (arith, fits)

pub loop-chosen-preserved : goal.loop-chosen-preserved
loop-chosen-preserved c =
    rw (c.from.ensures, c.from-in-loop-chosen.ensures, c.from-in-loop-chosen-2.ensures)
    (next_size_exact c.args.kinds c.loop-chosen.chosen c.loop-chosen.ways c.loop-chosen.invariant)

pub returns-clause-small : goal.returns-clause-small
returns-clause-small c =
    small_ways c.args.kinds c.loop-chosen.chosen c.loop-chosen.ways c.loop-chosen.invariant c.requires.kinds
    (omega arith)
