use Rattle.std.proofs.Common.{◌≡◌, true, take}
use Rattle.cnf_core.specs.declared.clause.Lit.{Lit}
use Rattle.cnf_core.specs.Clause.{contains}
use Rattle.cdcl_watch.proofs.attach.pair_of.Given as goal

abbrev pub invariant-loop-lit : goal.invariant-loop-lit
invariant-loop-lit l = (m : Lit) → contains (take l.lit-index l.lits) m ≡ true → m ≡ l.first
