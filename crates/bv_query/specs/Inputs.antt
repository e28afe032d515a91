-- The inputs that stand in terms: the free constants of SMT-LIB 2.6, section 5, each by its number and its sort.
use Rattle.std.specs.Prelude.{◌≡◌, ℕ, ◌==◌, ◌||◌, ◌↔◌, List, Option, Some, None, Bool, not, Contains}
use Rattle.std.specs.List.{list_all}
use Rattle.bv_terms.specs.declared.op.Op.{Op}
use Rattle.bv_terms.specs.declared.op.Op.TheVariants as op
use Rattle.bv_terms.specs.declared.value.Sort.{Sort}
use Rattle.bv_terms.specs.Sorts.{same_sort}
use Rattle.bv_terms.specs.Term.{Term, Apply, End}
use Rattle.bv_terms.specs.Subterm.{IsSubterm}

-- the number and the sort of the input that the operation is
abbrev pub read_input : Op → Option (ℕ × Sort)
read_input (op.Input number s) = Some (number, s)
read_input _ = None

-- those of the input that the term is
abbrev pub input_of : Term → Option (ℕ × Sort)
input_of (Apply o End) = read_input o
input_of _ = None

-- an input of that number and sort stands in one of the terms
abbrev pub IsInputOf : List Term → ℕ → Sort → Type 0
IsInputOf ts number s = (t : Term) × Contains ts t × IsSubterm (Apply (op.Input number s) End) t

-- no two inputs in the terms have one number and two sorts
abbrev pub HaveOneSort : List Term → Type 0
HaveOneSort ts = (number : ℕ) (r s : Sort) → IsInputOf ts number r → IsInputOf ts number s → r ≡ s

-- these are the inputs in the terms
pub record AreInputsOf (ts : List Term) (inputs : List (ℕ × Sort)) : Type 0 where
  pub exact : (number : ℕ) (s : Sort) → Contains inputs (number, s) ↔ IsInputOf ts number s

-- two inputs that have two numbers or one sort
abbrev pub are_alike : ℕ × Sort → ℕ × Sort → Bool
are_alike i j = not (i.0 == j.0) || same_sort i.1 j.1

-- no two of the inputs have one number and two sorts
abbrev pub have_one_sort : List (ℕ × Sort) → Bool
have_one_sort inputs = list_all (λ i. list_all (are_alike i) inputs) inputs
