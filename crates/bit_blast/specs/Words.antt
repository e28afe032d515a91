-- The words of terms in a circuit.
use Rattle.std.specs.Prelude.{◌≡◌, ℕ, ◌<◌, ◌≤◌, ◌==◌, ◌&&◌, ◌⊎◌, List, ◌++◌, Some, Bool, false, All, Contains, length}
use Rattle.std.specs.Prelude.{slice_get, take, IsTrue}
use Rattle.bv_terms.specs.declared.op.Op.TheVariants as op
use Rattle.bv_terms.specs.declared.op.TermId.{TermId}
use Rattle.bv_terms.specs.declared.value.Sort.{Sort}
use Rattle.bv_terms.specs.declared.value.Sort.TheVariants as sort
use Rattle.bv_terms.specs.declared.value.Value.{Value}
use Rattle.bv_terms.specs.declared.value.Value.TheVariants as val
use Rattle.bv_terms.specs.Sorts.{width_of}
use Rattle.bv_terms.specs.Term.{Term, Apply, End, value}
use Rattle.bv_terms.specs.WellSorted.{sort_of, InputsFit}
use Rattle.bv_terms.specs.Table.{Entry, Table, term_at}
use Rattle.bv_terms.specs.Subterm.{IsSubterm}
use Rattle.cnf_core.specs.declared.clause.Clause.{Clause}
use Rattle.cnf_core.specs.Clause.{is_model}
use Rattle.circuit.specs.declared.signal.Signal.{Signal}
use Rattle.circuit.specs.Signal.{signal_true, IsSignalOver}
use Rattle.circuit.specs.Gate.{Netlist, IsNetlist, hold}
use Rattle.word_circuits.specs.Word.{word_number, AreOver}
use Rattle.bit_blast.specs.Bits.{Agrees, IsListed, IsBitOf}

-- the value of a sort that the bits of a number are; none are a memory
abbrev pub value_of : Sort → ℕ → Value
value_of sort.Bool n = val.Bool (n == 1)
value_of (sort.Bits w) n = val.Bits w n
value_of sort.Mem n = val.Bool false

-- a word of a circuit that has a term's value, wherever each gate has its value and the listed bits are those of
-- inputs that fit; where the term is an input, its bits are listed
pub record IsTermWord (p : ℕ) (n : Netlist) (t : Term) (word : List Signal) : Type 0 where
  pub kind : Sort
  pub sorted : sort_of p t ≡ Some kind
  pub places : length word ≡ width_of kind
  pub some : 1 ≤ length word
  pub over : AreOver n word
  pub value : (v : ℕ → Bool) (env : List Value) → IsTrue (hold v n.gates) → Agrees v n.bits env → InputsFit env t
      → value_of kind (word_number v word) ≡ value env t
  pub listed : (number k : ℕ) (s : Sort) → t ≡ Apply (op.Input number s) End → k < width_of s
      → IsListed n.bits number k

-- a circuit, and words of nodes in it
pub record Wiring : Type 0 where
  pub netlist : Netlist
  pub words : List (TermId × List Signal)

abbrev pub wiring : Netlist → List (TermId × List Signal) → Wiring
wiring n words = record { netlist = n; words = words }

abbrev pub HasWord : List (TermId × List Signal) → TermId → Type 0
HasWord words at = (word : List Signal) × Contains words (at, word)

-- words of nodes, with those of all nodes below them
pub record AreWords (table : Table) (w : Wiring) : Type 0 where
  pub netlist : IsNetlist w.netlist
  pub within : (at : TermId) → HasWord w.words at → at.0 < length table.nodes
  pub arguments : (at : TermId) (e : Entry) → HasWord w.words at → slice_get table.nodes at.0 ≡ Some e
      → All (HasWord w.words) e.args
  pub words : (at : TermId) (word : List Signal) → Contains w.words (at, word)
      → IsTermWord table.pointer w.netlist (term_at table at) word

-- the new circuit has more gates, and asserts nothing more; of bits of inputs it lists besides only such ones
pub record Widens (IsNew : ℕ → ℕ → Type 0) (old new : Netlist) : Type 0 where
  pub netlist : IsNetlist new
  pub longer : length old.gates ≤ length new.gates
  pub holds : (v : ℕ → Bool) → IsTrue (hold v new.gates) → IsTrue (hold v old.gates)
  pub more_clauses : List Clause
  pub clauses : new.formula.clauses ≡ old.formula.clauses ++ more_clauses
  pub models : (v : ℕ → Bool) → IsTrue (hold v new.gates)
      → is_model v new.formula.clauses ≡ is_model v old.formula.clauses
  pub more_bits : List (ℕ × ℕ × ℕ)
  pub bits : new.bits ≡ old.bits ++ more_bits
  pub from : All (λ b. IsNew b.0 b.1) more_bits

-- words of more nodes, all below a term, and what an environment is tested for is asserted besides
pub record Moves (table : Table) (t : Term) (test : List Value → Bool) (old new : Wiring) : Type 0 where
  pub words : AreWords table new
  pub kept : (at : TermId) → HasWord old.words at → HasWord new.words at
  pub longer : length old.netlist.gates ≤ length new.netlist.gates
  pub holds : (v : ℕ → Bool) → IsTrue (hold v new.netlist.gates) → IsTrue (hold v old.netlist.gates)
  pub more_clauses : List Clause
  pub clauses : new.netlist.formula.clauses ≡ old.netlist.formula.clauses ++ more_clauses
  pub models : (v : ℕ → Bool) (env : List Value) → IsTrue (hold v new.netlist.gates)
      → Agrees v new.netlist.bits env → InputsFit env t
      → is_model v new.netlist.formula.clauses ≡ (is_model v old.netlist.formula.clauses && test env)
  pub more_bits : List (ℕ × ℕ × ℕ)
  pub bits : new.netlist.bits ≡ old.netlist.bits ++ more_bits
  pub from : All (λ b. IsBitOf t b.0 b.1) more_bits

-- a node of the table whose term stands in another's
abbrev pub IsBelow : Table → TermId → TermId → Type 0
IsBelow table root at = (at.0 < length table.nodes) × IsSubterm (term_at table at) (term_at table root)

-- a node that has a word, or is among these
abbrev pub IsKnown : List (TermId × List Signal) → List TermId → TermId → Type 0
IsKnown words nodes at = HasWord words at ⊎ Contains nodes at

-- nodes below a root, each after its arguments, of which some are known already
pub record AreUnvisited (table : Table) (words : List (TermId × List Signal)) (root : TermId) (nodes : List TermId)
    : Type 0 where
  pub below : All (IsBelow table root) nodes
  pub arguments : (i : ℕ) (at : TermId) (e : Entry) → slice_get nodes i ≡ Some at
      → slice_get table.nodes at.0 ≡ Some e → All (IsKnown words (take i nodes)) e.args
  pub visits : IsKnown words nodes root

-- the bits of the inputs in a term are listed
abbrev pub AreListed : List (ℕ × ℕ × ℕ) → Term → Type 0
AreListed bits t = (number k : ℕ) → IsBitOf t number k → IsListed bits number k

-- a signal that has a truth value of environments, wherever each gate has its value and the listed bits are those of
-- inputs that fit a term
pub record IsPartSignal (n : Netlist) (t : Term) (test : List Value → Bool) (s : Signal) : Type 0 where
  pub over : IsSignalOver (length n.gates) s
  pub value : (v : ℕ → Bool) (env : List Value) → IsTrue (hold v n.gates) → Agrees v n.bits env → InputsFit env t
      → signal_true v s ≡ test env
