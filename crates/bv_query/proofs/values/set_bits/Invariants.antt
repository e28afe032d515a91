use Rattle.std.proofs.Common.{◌≡◌, drop}
use Rattle.cnf_core.specs.Clause.{assigned}
use Rattle.bv_query.specs.Values.{with_bits}
use Rattle.bv_query.proofs.values.set_bits.Given as goal

abbrev pub invariant-loop-number : goal.invariant-loop-number
invariant-loop-number l =
    with_bits (assigned l.model) l.values (drop l.number-index l.bits)
    ≡ with_bits (assigned l.model) l.fn.values l.bits
