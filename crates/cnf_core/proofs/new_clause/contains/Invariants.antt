use Rattle.std.proofs.Common.{◌≡◌, drop}
use Rattle.cnf_core.specs.Clause.{contains}
use Rattle.cnf_core.proofs.new_clause.contains.Given as goal

abbrev pub invariant-loop-other : goal.invariant-loop-other
invariant-loop-other l = contains (drop l.other-index l.lits) l.lit ≡ contains l.lits l.lit
