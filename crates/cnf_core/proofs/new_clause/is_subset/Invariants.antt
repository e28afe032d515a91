use Rattle.std.proofs.Common.{◌≡◌, drop}
use Rattle.cnf_core.specs.Clause.{is_subset}
use Rattle.cnf_core.proofs.new_clause.is_subset.Given as goal

abbrev pub invariant-loop-lit : goal.invariant-loop-lit
invariant-loop-lit l = is_subset (drop l.lit-index l.part) l.whole ≡ is_subset l.part l.whole
