use Rattle.std.proofs.Common.{◌≡◌, ◌<◌, ℕ, true, length}
use Rattle.cnf_core.specs.Clause.{assigned, contains}
use Rattle.cdcl_watch.proofs.search.values_of.Given as goal

abbrev pub invariant-loop-variable : goal.invariant-loop-variable
invariant-loop-variable l =
    (length l.values.items ≡ l.variable)
    × ((x : ℕ) → x < l.variable →
    assigned l.values.items x ≡ contains l.trail.lits (record { variable = x; positive = true }))
