use Rattle.std.proofs.Common.{◌≡◌, ℕ, true, drop, length}
use Rattle.cnf_core.specs.Clause.{assigned}
use Rattle.cdcl_base.specs.Analysis.{contains_number}
use Rattle.cdcl_base.proofs.analysis.unmark.Given as goal

abbrev pub invariant-loop-variable : goal.invariant-loop-variable
invariant-loop-variable l = record {
  len : length l.marks ≡ length l.fn.marks;
  left : (x : ℕ) → assigned l.marks x ≡ true → contains_number (drop l.variable-index l.marked) x ≡ true;
}
