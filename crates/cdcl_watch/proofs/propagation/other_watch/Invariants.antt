use Rattle.std.proofs.Common.{◌≡◌, ◌⊎◌, true, drop}
use Rattle.cnf_core.specs.declared.clause.Lit.{Lit}
use Rattle.cnf_core.specs.Clause.{opposite, contains}
use Rattle.cdcl_watch.proofs.propagation.other_watch.Given as goal

abbrev pub invariant-loop-lit : goal.invariant-loop-lit
invariant-loop-lit l =
    (m : Lit) → contains l.lits m ≡ true →
    ((m ≡ l.watch) ⊎ (contains l.trail.lits (opposite m) ≡ true)) ⊎ (contains (drop l.lit-index l.lits) m ≡ true)
