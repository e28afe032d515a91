use Rattle.std.proofs.Common.{◌≡◌, ◌≤◌, List, take, length}
use Rattle.cnf_core.specs.declared.clause.Lit.{Lit}
use Rattle.cdcl_base.specs.Analysis.{Leads}
use Rattle.cdcl_base.proofs.analysis.resolve_all.Given as goal

abbrev pub invariant-loop-marks : goal.invariant-loop-marks
invariant-loop-marks l =
    (length l.marks ≡ length l.initial.marks)
    × (l.end ≤ length l.lits)
    × ((first : List Lit) → Leads l.clauses first l.initial.steps.items l.initial.marks l.lits →
    Leads l.clauses first l.steps.items l.marks (take l.end l.lits))

abbrev pub decreases-loop-marks : goal.decreases-loop-marks
decreases-loop-marks l = l.end
