-- Which terms are well-sorted, and at which inputs they have values. Source: SMT-LIB 2.6, section 5 (the well-sorted
-- terms), logic QF_BV.
use Rattle.std.specs.Prelude.{◌≡◌, ℕ, List, [], ◌∷◌, Option, Some, None, slice_get, option_and_then}
use Rattle.bv_terms.specs.declared.op.Op.{Op}
use Rattle.bv_terms.specs.declared.op.Op.TheVariants as op
use Rattle.bv_terms.specs.declared.op.MakeFault.{MakeFault}
use Rattle.bv_terms.specs.declared.value.Sort.{Sort}
use Rattle.bv_terms.specs.declared.value.Value.{Value}
use Rattle.bv_terms.specs.Term.{Term, Operands, Apply, End, Then}
use Rattle.bv_terms.specs.Sorts.{HasSort}
use Rattle.bv_terms.specs.Signature.{signature, refusal, result_sort}

-- a sort, where there is no fault
abbrev pub sort_unless : Option MakeFault → Sort → Option Sort
sort_unless (Some f) s = None
sort_unless None s = Some s

-- the sort of an operation over arguments of these sorts, where a pointer has p bits
abbrev pub op_sort : ℕ → Op → List Sort → Option Sort
op_sort p o ss = sort_unless (refusal p o ss) (result_sort (signature o).result ss)

-- the sort of a well-sorted term, where a pointer has p bits, and none for any other
unfoldable mutual
  pub sort_of : ℕ → Term → Option Sort
  sort_of p (Apply o ts) = option_and_then (op_sort p o) (sorts_of p ts)

  pub sorts_of : ℕ → Operands → Option (List Sort)
  sorts_of p End = Some []
  sorts_of p (Then t ts) = option_and_then (λ s. option_and_then (λ ss. Some (s ∷ ss)) (sorts_of p ts)) (sort_of p t)

-- an input that an operation reads has a value of its sort
abbrev pub InputFits : List Value → Op → Type 0
InputFits inputs (op.Input k s) = (v : Value) × (slice_get inputs k ≡ Some v) × HasSort s v
InputFits inputs _ = Unit {0}

-- the inputs that stand in the term have values of their sorts
unfoldable mutual
  pub InputsFit : List Value → Term → Type 0
  InputsFit inputs (Apply o ts) = InputFits inputs o × AllInputsFit inputs ts

  pub AllInputsFit : List Value → Operands → Type 0
  AllInputsFit inputs End = Unit {0}
  AllInputsFit inputs (Then t ts) = InputsFit inputs t × AllInputsFit inputs ts
