use Rattle.std.proofs.Common.{◌≡◌, ◌≤◌, ◌<◌, ◌+◌, List, take, length, slice_get, Some, true}
use Rattle.cnf_core.specs.declared.clause.Lit.{Lit}
use Rattle.cnf_core.specs.Clause.{assigned}
use Rattle.cdcl_base.specs.Analysis.{Leads, AreMarks, IsFirstPlace}
use Rattle.cdcl_base.proofs.analysis.first_uip.Given as goal

abbrev pub invariant-loop-first : goal.invariant-loop-first
invariant-loop-first l = record {
  len : length l.marks ≡ length l.fn.marks;
  marks : AreMarks l.lits l.marks l.marked.items;
  first : IsFirstPlace l.places l.level_start (length l.lits) l.marked.items l.first;
  before : l.first ≤ l.place;
  within : l.place < length l.lits;
  marked : (x : Lit) → slice_get l.lits l.place ≡ Some x → assigned l.marks x.variable ≡ true;
  steps : (first : List Lit) → Leads l.clauses first l.fn.steps.items l.fn.marks l.lits →
      Leads l.clauses first l.steps.items l.marks (take (l.place + 1) l.lits);
}

abbrev pub decreases-loop-first : goal.decreases-loop-first
decreases-loop-first l = l.place
