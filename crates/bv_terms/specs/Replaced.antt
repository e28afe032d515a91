-- Terms with other terms in place of their inputs. Source: this project's own.
use Rattle.std.specs.Prelude.{◌≡◌, ℕ, List, Some, slice_get, unwrap_or}
use Rattle.bv_terms.specs.declared.op.Op.{Op}
use Rattle.bv_terms.specs.declared.op.Op.TheVariants as op
use Rattle.bv_terms.specs.Term.{Term, Operands, Apply, End, Then}
use Rattle.bv_terms.specs.WellSorted.{sort_of}

-- an operation over operands, where input k is the k-th of these terms, and stays where there is none
abbrev pub op_replaced : List Term → Op → Operands → Term
op_replaced ts (op.Input k s) us = unwrap_or (slice_get ts k) (Apply (op.Input k s) us)
op_replaced ts o us = Apply o us

-- a term with these terms in place of its inputs
unfoldable mutual
  pub replaced : List Term → Term → Term
  replaced ts (Apply o us) = op_replaced ts o (all_replaced ts us)

  pub all_replaced : List Term → Operands → Operands
  all_replaced ts End = End
  all_replaced ts (Then u us) = Then (replaced ts u) (all_replaced ts us)

-- for an input that an operation reads there is a term of its sort, where a pointer has p bits
abbrev pub ReplacementFits : ℕ → List Term → Op → Type 0
ReplacementFits p ts (op.Input k s) = (t : Term) × (slice_get ts k ≡ Some t) × (sort_of p t ≡ Some s)
ReplacementFits p ts _ = Unit {0}

-- for the inputs that stand in the term there are terms of their sorts
unfoldable mutual
  pub ReplacementsFit : ℕ → List Term → Term → Type 0
  ReplacementsFit p ts (Apply o us) = ReplacementFits p ts o × AllReplacementsFit p ts us

  pub AllReplacementsFit : ℕ → List Term → Operands → Type 0
  AllReplacementsFit p ts End = Unit {0}
  AllReplacementsFit p ts (Then u us) = ReplacementsFit p ts u × AllReplacementsFit p ts us
