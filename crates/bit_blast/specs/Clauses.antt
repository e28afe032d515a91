-- When clauses stand for formulas: their models are the environments in which the formulas are true. Source: G. S.
-- Tseitin, On the complexity of derivation in propositional calculus, 1968, for the clauses of circuits; formulas over
-- bit-vectors as circuits: D. Kroening, O. Strichman, Decision Procedures, chapter 6 ("bit-flattening").
use Rattle.std.specs.Prelude.{◌≡◌, ◌<◌, ◌↔◌, ℕ, List, Some, Bool, true, All, Contains, slice_get, IsTrue}
use Rattle.bv_terms.specs.declared.op.Op.TheVariants as op
use Rattle.bv_terms.specs.declared.value.Sort.TheVariants as sort
use Rattle.bv_terms.specs.declared.value.Value.{Value}
use Rattle.bv_terms.specs.declared.value.Value.TheVariants as val
use Rattle.bv_terms.specs.Term.{Term, Apply, End, value}
use Rattle.bv_terms.specs.WellSorted.{sort_of, InputsFit}
use Rattle.bv_terms.specs.Subterm.{IsSubterm}
use Rattle.cnf_core.specs.Clause.{is_model}
use Rattle.cnf_core.specs.Formula.{Formula}
use Rattle.bit_blast.specs.Bits.{Agrees, IsListed, IsBitOf}

-- no input that is a memory stands in the term
abbrev pub HasNoMemory : Term → Type 0
HasNoMemory t = (k : ℕ) → ¬ IsSubterm (Apply (op.Input k sort.Mem) End) t

-- a formula over values, where a pointer has p bits: a truth value in which no memory stands
pub record IsFormula (p : ℕ) (t : Term) : Type 0 where
  pub truth : sort_of p t ≡ Some sort.Bool
  pub no_memory : HasNoMemory t

-- the formula is true where the inputs have these values
abbrev pub IsTrueAt : List Value → Term → Type 0
IsTrueAt env t = value env t ≡ val.Bool true

-- the clauses stand for the formulas, by these variables of the inputs' bits: where the inputs have values of their
-- sorts, all formulas are true exactly where some model agrees with the values; and the bits of the inputs in the
-- formulas are listed, each once
pub record AreClausesFor (formulas : List Term) (cnf : Formula) (bits : List (ℕ × ℕ × ℕ)) : Type 0 where
  pub models : (env : List Value) → All (InputsFit env) formulas
      → All (IsTrueAt env) formulas ↔ ((v : ℕ → Bool) × IsTrue (is_model v cnf.clauses) × Agrees v bits env)
  pub listed : (number k : ℕ) → IsListed bits number k ↔ ((t : Term) × Contains formulas t × IsBitOf t number k)
  pub once : (i j number k x y : ℕ) → slice_get bits i ≡ Some (number, k, x) → slice_get bits j ≡ Some (number, k, y)
      → i ≡ j
  pub variables : All (λ b. b.2 < cnf.variables) bits
