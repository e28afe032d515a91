use Rattle.std.proofs.Common.{◌≡◌, drop}
use Rattle.bv_query.specs.Values.{with_zeros, zeros}
use Rattle.bv_query.proofs.values.zeros.Given as goal

abbrev pub invariant-loop-number : goal.invariant-loop-number
invariant-loop-number l = with_zeros l.values.items (drop l.number-index l.inputs) ≡ zeros l.inputs
