use Rattle.std.proofs.Common.{◌≡◌, drop}
use Rattle.std.specs.List.{list_any}
use Rattle.cnf_core.specs.declared.clause.Lit.{Lit}
use Rattle.cnf_core.specs.Clause.{contains, opposite, is_tautology}
use Rattle.cnf_core.proofs.new_clause.is_tautology.Given as goal

abbrev pub invariant-loop-lit : goal.invariant-loop-lit
invariant-loop-lit l =
    list_any (λ (m : Lit). contains l.lits (opposite m)) (drop l.lit-index l.lits) ≡ is_tautology l.lits
