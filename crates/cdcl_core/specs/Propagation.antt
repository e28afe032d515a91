-- What a pass over all clauses comes to.
use Rattle.std.specs.Prelude.{◌≡◌, true, ◌<◌, ◌≤◌, List, [], ◌∷◌, length}
use Rattle.cnf_core.specs.declared.clause.Lit.{Lit}
use Rattle.cnf_core.specs.declared.clause.Clause.{Clause}
use Rattle.cnf_core.specs.Clause.{contains}
use Rattle.cdcl_core.specs.declared.propagation.Progress.{Progress}
use Rattle.cdcl_core.specs.declared.propagation.Progress.TheVariants.{Conflict, Assigned, Fixpoint}
use Rattle.cdcl_base.specs.Trail.{Trail, ArePropagated, IsConflict}

-- a literal of each clause
abbrev pub AreBlockers : List Clause → List Lit → Type 0
AreBlockers [] [] = Unit {0}
AreBlockers (c ∷ cs) (l ∷ ls) = (contains c.lits l ≡ true) × AreBlockers cs ls
AreBlockers _ _ = ⊥

-- what each outcome says of the clauses and the trail
abbrev pub IsProgress : List Clause → Trail → Trail → Progress → Type 0
IsProgress cs old new (Conflict k) = IsConflict new.lits cs k
IsProgress cs old new Assigned = (length old.lits < length new.lits) × (length new.lits ≤ new.variables)
IsProgress cs old new Fixpoint = ArePropagated new.lits cs
