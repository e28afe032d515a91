use Rattle.std.proofs.Common.{◌≡◌, ◌≤◌, length, take}
use Rattle.cnf_core.specs.declared.clause.Lit.{Lit}
use Rattle.cnf_core.specs.Clause.{contains, assigned}
use Rattle.cdcl_base.specs.Codes.{code}
use Rattle.cdcl_base.proofs.trail.unassign_from.Given as goal

abbrev pub invariant-loop-lits : goal.invariant-loop-lits
invariant-loop-lits l = record {
  place : l.place ≤ length l.lits.items;
  front : l.lits.items ≡ take (length l.lits.items) l.fn.lits.items;
  agree : (x : Lit) → assigned l.truths.items (code x) ≡ contains l.lits.items x;
  truths_len : length l.truths.items ≡ length l.fn.truths.items;
  phases_len : length l.phases.items ≡ length l.fn.phases.items;
}

abbrev pub decreases-loop-lits : goal.decreases-loop-lits
decreases-loop-lits l = length l.lits.items
