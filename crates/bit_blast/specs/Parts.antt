-- Parts of a formula, and how it is joined of them.
use Rattle.std.specs.Prelude.{◌≡◌, ℕ, ◌<◌, ◌⊎◌, ◌&&◌, ◌||◌, not, if◌then◌else◌, List, [], ◌∷◌, Bool, false, All}
use Rattle.std.specs.Prelude.{Contains}
use Rattle.std.specs.Prelude.{length}
use Rattle.std.specs.List.{list_all, list_any}
use Rattle.std.specs.Bool.{beq}
use Rattle.bv_terms.specs.declared.op.Op.{Op}
use Rattle.bv_terms.specs.declared.op.TermId.{TermId}
use Rattle.bv_terms.specs.declared.value.Value.{Value}
use Rattle.bv_terms.specs.declared.value.Value.TheVariants as val
use Rattle.bv_terms.specs.Term.{Term, same_value, op_value, value}
use Rattle.bv_terms.specs.Signature.{signature, connective}
use Rattle.bv_terms.specs.WellSorted.{sort_of}
use Rattle.bv_terms.specs.WellSorted.{InputsFit}
use Rattle.bv_terms.specs.Table.{Table, term_at}
use Rattle.bv_terms.specs.Subterm.{IsSubterm}
use Rattle.bit_blast.specs.declared.parts.Part.{Part}
use Rattle.bit_blast.specs.declared.parts.Join.{Join}
use Rattle.bit_blast.specs.declared.parts.Join.TheVariants as join
use Rattle.bit_blast.specs.Bits.{IsBitOf}
use Rattle.bit_blast.specs.Clauses.{HasNoMemory, IsFormula}

-- the value true
abbrev pub is_true : Value → Bool
is_true (val.Bool b) = b
is_true (val.Bits w n) = false

-- the term is true where the inputs have these values
abbrev pub term_true : List Value → Term → Bool
term_true env t = is_true (value env t)

abbrev pub node_true : Table → List Value → TermId → Bool
node_true table env at = term_true env (term_at table at)

-- a part is true where its node is, or where it is not
abbrev pub part_true : Table → List Value → Part → Bool
part_true table env part = beq (node_true table env part.at) part.holds

-- a node of the table that is a formula
abbrev pub IsFormulaNode : Table → TermId → Type 0
IsFormulaNode table at = (at.0 < length table.nodes) × IsFormula table.pointer (term_at table at)

-- all of them, or some
abbrev pub joined : Join → (Part → Bool) → List Part → Bool
joined join.All test parts = list_all test parts
joined join.Any test parts = list_any test parts

-- formulas in a formula, of which it is joined
pub record AreParts (table : Table) (j : Join) (whole : Part) (parts : List Part) : Type 0 where
  pub formulas : All (λ part. IsFormulaNode table part.at) parts
  pub below : All (λ part. IsSubterm (term_at table part.at) (term_at table whole.at)) parts
  pub value : (env : List Value) → InputsFit env (term_at table whole.at)
      → part_true table env whole ≡ joined j (part_true table env) parts
  pub bits : (number k : ℕ) → IsBitOf (term_at table whole.at) number k
      → (part : Part) × Contains parts part × IsBitOf (term_at table part.at) number k

-- both, or one
abbrev pub both : Join → Bool → Bool → Bool
both join.All p q = p && q
both join.Any p q = p || q

-- an operation over two truth values that joins them so, the first one negated before or not
pub record IsConnective (o : Op) (j : Join) (is_negated : Bool) : Type 0 where
  pub signature : signature o ≡ connective
  pub value : (inputs : List Value) (p q : Bool) → op_value inputs o (val.Bool p ∷ val.Bool q ∷ [])
      ≡ val.Bool (both j (if is_negated then not p else p) q)

-- two formulas in a formula, of which it is joined
pub record AreMembers (table : Table) (j : Join) (whole left right : Part) : Type 0 where
  pub left_formula : IsFormulaNode table left.at
  pub right_formula : IsFormulaNode table right.at
  pub left_smaller : left.at.0 < whole.at.0
  pub right_smaller : right.at.0 < whole.at.0
  pub left_below : IsSubterm (term_at table left.at) (term_at table whole.at)
  pub right_below : IsSubterm (term_at table right.at) (term_at table whole.at)
  pub value : (env : List Value) → InputsFit env (term_at table whole.at)
      → part_true table env whole ≡ both j (part_true table env left) (part_true table env right)
  pub bits : (number k : ℕ) → IsBitOf (term_at table whole.at) number k
      → IsBitOf (term_at table left.at) number k ⊎ IsBitOf (term_at table right.at) number k

-- the part says of two nodes of one sort, in which no memory stands, that their values are equal
pub record IsEquation (table : Table) (part : Part) (left right : TermId) : Type 0 where
  pub left_within : left.0 < length table.nodes
  pub right_within : right.0 < length table.nodes
  pub left_memory : HasNoMemory (term_at table left)
  pub right_memory : HasNoMemory (term_at table right)
  pub same_sort : sort_of table.pointer (term_at table left) ≡ sort_of table.pointer (term_at table right)
  pub left_below : IsSubterm (term_at table left) (term_at table part.at)
  pub right_below : IsSubterm (term_at table right) (term_at table part.at)
  pub value : (env : List Value) → InputsFit env (term_at table part.at)
      → part_true table env part ≡ same_value (value env (term_at table left)) (value env (term_at table right))
  pub bits : (number k : ℕ) → IsBitOf (term_at table part.at) number k
      → IsBitOf (term_at table left) number k ⊎ IsBitOf (term_at table right) number k
