use Rattle.std.proofs.Common.{◌≡◌, Some, slice_get, take}
use Rattle.cnf_core.specs.declared.clause.Lit.{Lit}
use Rattle.cnf_core.specs.Clause.{opposite}
use Rattle.cdcl_base.proofs.CollectLemmas.{IsCollectedBy}
use Rattle.cdcl_base.proofs.analysis.collect.Given as goal

abbrev pub invariant-loop-variable : goal.invariant-loop-variable
invariant-loop-variable l = (x : Lit) → slice_get l.lits l.place ≡ Some x →
    IsCollectedBy (take l.variable-index l.marked) l.lits (opposite x) l.level_start l.clause.items
