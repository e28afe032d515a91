-- Formulas over a table of terms, and the circuit that asserts them.
use Rattle.std.specs.Prelude.{◌≡◌, ◌<◌, ◌≤◌, ◌↔◌, ℕ, List, ◌++◌, Bool, All, Contains, length, map, IsTrue}
use Rattle.std.specs.List.{list_all}
use Rattle.bv_terms.specs.declared.op.TermId.{TermId}
use Rattle.bv_terms.specs.declared.value.Value.{Value}
use Rattle.bv_terms.specs.Term.{Term}
use Rattle.bv_terms.specs.WellSorted.{InputsFit}
use Rattle.bv_terms.specs.Table.{Table, term_at}
use Rattle.cnf_core.specs.declared.clause.Clause.{Clause}
use Rattle.cnf_core.specs.Clause.{is_model}
use Rattle.circuit.specs.declared.signal.Signal.{Signal}
use Rattle.circuit.specs.Gate.{Netlist, hold}
use Rattle.bit_blast.specs.Bits.{Agrees, IsListed, IsBitOf}
use Rattle.bit_blast.specs.Words.{wiring, AreWords}
use Rattle.bit_blast.specs.Parts.{term_true}

-- the nodes of the formulas, the circuit, and the words of nodes in it
pub record Blast : Type 0 where
  pub formulas : List TermId
  pub netlist : Netlist
  pub words : List (TermId × List Signal)

-- what was asserted is right over a table: its clauses say of each environment, by the bits that are listed, that all
-- formulas are true
pub record IsRight (b : Blast) (table : Table) : Type 0 where
  pub formulas : All (λ at. at.0 < length table.nodes) b.formulas
  pub words : AreWords table (wiring b.netlist b.words)
  pub models : (v : ℕ → Bool) (env : List Value) → IsTrue (hold v b.netlist.gates) → Agrees v b.netlist.bits env
      → All (InputsFit env) (map (term_at table) b.formulas)
      → is_model v b.netlist.formula.clauses ≡ list_all (term_true env) (map (term_at table) b.formulas)
  pub listed : (number k : ℕ) → IsListed b.netlist.bits number k
      ↔ ((t : Term) × Contains (map (term_at table) b.formulas) t × IsBitOf t number k)

-- the clauses and the listed bits of the old one are the first of the new one, which has no fewer variables
pub record Continues (old new : Netlist) : Type 0 where
  pub variables : old.formula.variables ≤ new.formula.variables
  pub more_clauses : List Clause
  pub clauses : new.formula.clauses ≡ old.formula.clauses ++ more_clauses
  pub more_bits : List (ℕ × ℕ × ℕ)
  pub bits : new.bits ≡ old.bits ++ more_bits
