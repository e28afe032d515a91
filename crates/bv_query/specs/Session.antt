-- What a session keeps between its questions.
use Rattle.std.specs.Prelude.{◌≡◌, List, All, map}
use Rattle.bv_terms.specs.Term.{Term}
use Rattle.bv_terms.specs.Table.{Table, term_at}
use Rattle.cnf_core.specs.Formula.{Formula}
use Rattle.bit_blast.specs.Clauses.{IsFormula}
use Rattle.bit_blast.specs.Blast.{Blast, IsRight}
use Rattle.bv_query.specs.Inputs.{HaveOneSort}

-- the formulas that were asserted with their circuit, and the solver's clauses
pub record Asserted : Type 0 where
  pub blast : Blast
  pub clauses : Formula

-- the formulas' terms
abbrev pub formulas_in : Table → Asserted → List Term
formulas_in table s = map (term_at table) s.blast.formulas

-- what was asserted is right over a table: formulas over values whose inputs have one sort each, the circuit is right
-- for them, and the solver has its clauses
pub record IsRightSession (s : Asserted) (table : Table) : Type 0 where
  pub blast : IsRight s.blast table
  pub clauses : s.clauses ≡ s.blast.netlist.formula
  pub formulas : All (IsFormula table.pointer) (formulas_in table s)
  pub one_sort : HaveOneSort (formulas_in table s)
