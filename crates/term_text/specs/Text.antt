-- The text by which a term is written: each operation by its operator, and a bit-vector as `(_ bvX n)`. Source: SMT-LIB
-- 2.6, theories Core and FixedSizeBitVectors, logic QF_BV; the accesses to a memory are this project's own.
use Rattle.std.specs.Prelude.{◌≡◌, ℕ, List, [], ◌++◌, slice_get, unwrap_or, Some, true, false, IsTrue, codes}
use Rattle.std.specs.Prelude.{decimal}
use Rattle.std.specs.List.{list_all}
use Rattle.collections.specs.Named.{named}
use Rattle.bv_terms.specs.declared.op.Op.{Op}
use Rattle.bv_terms.specs.declared.op.Op.TheVariants as op
use Rattle.bv_terms.specs.Term.{Term, Operands, Apply, End, Then}
use Rattle.sexp_read.specs.Token.{is_text_byte, tokens}
use Rattle.sexp_read.specs.Words.{is_name}
use Rattle.sexp_read.specs.Tree as tree
use Rattle.sexp_read.specs.Tree.{Tree, flatten}
use Rattle.term_text.specs.Reading.{Scope, constant_term}

-- a constant, or the name of an input
abbrev pub constant_text : List (List ℕ) → Op → List ℕ
constant_text names (op.Input k s) = unwrap_or (slice_get names k) []
constant_text names (op.Bool true) = codes "true"
constant_text names (op.Bool false) = codes "false"
constant_text names (op.Bits w n) = codes "(_ bv" ++ decimal n ++ codes " " ++ decimal w ++ codes ")"
constant_text names _ = []

-- the head of an operation's list; an access has its number of bytes after its word
abbrev pub op_text : Op → List ℕ
op_text op.Not = codes "not"
op_text op.And = codes "and"
op_text op.Or = codes "or"
op_text op.Xor = codes "xor"
op_text op.Implies = codes "=>"
op_text op.Eq = codes "="
op_text op.Ite = codes "ite"
op_text op.BvNot = codes "bvnot"
op_text op.BvNeg = codes "bvneg"
op_text op.BvAnd = codes "bvand"
op_text op.BvOr = codes "bvor"
op_text op.BvXor = codes "bvxor"
op_text op.BvAdd = codes "bvadd"
op_text op.BvSub = codes "bvsub"
op_text op.BvMul = codes "bvmul"
op_text op.BvUdiv = codes "bvudiv"
op_text op.BvUrem = codes "bvurem"
op_text op.BvShl = codes "bvshl"
op_text op.BvLshr = codes "bvlshr"
op_text op.BvAshr = codes "bvashr"
op_text op.BvUlt = codes "bvult"
op_text op.BvUle = codes "bvule"
op_text op.BvSlt = codes "bvslt"
op_text op.BvSle = codes "bvsle"
op_text op.Concat = codes "concat"
op_text (op.Extract high low) = codes "(_ extract " ++ decimal high ++ codes " " ++ decimal low ++ codes ")"
op_text (op.ZeroExtend by) = codes "(_ zero_extend " ++ decimal by ++ codes ")"
op_text (op.SignExtend by) = codes "(_ sign_extend " ++ decimal by ++ codes ")"
op_text (op.MLoad n) = codes "mload " ++ decimal n
op_text (op.MMark n) = codes "mmark " ++ decimal n
op_text (op.MStore n) = codes "mstore " ++ decimal n
op_text _ = []

-- the text of a term, where input k has the k-th of these names
unfoldable mutual
  pub term_text : List (List ℕ) → Term → List ℕ
  term_text names (Apply o End) = constant_text names o
  term_text names (Apply o (Then t ts)) =
      codes "(" ++ op_text o ++ operands_text names (Then t ts) ++ codes ")"

  pub operands_text : List (List ℕ) → Operands → List ℕ
  operands_text names End = []
  operands_text names (Then t ts) = codes " " ++ term_text names t ++ operands_text names ts

-- an input that an operation reads has a name
abbrev pub InputIsNamed : List (List ℕ) → Op → Type 0
InputIsNamed names (op.Input k s) = (name : List ℕ) × (slice_get names k ≡ Some name) × IsTrue (is_name name)
InputIsNamed names _ = Unit {0}

-- so has each input that stands in the term
unfoldable mutual
  pub InputsAreNamed : List (List ℕ) → Term → Type 0
  InputsAreNamed names (Apply o ts) = InputIsNamed names o × AllInputsAreNamed names ts

  pub AllInputsAreNamed : List (List ℕ) → Operands → Type 0
  AllInputsAreNamed names End = Unit {0}
  AllInputsAreNamed names (Then t ts) = InputsAreNamed names t × AllInputsAreNamed names ts

-- the name of an input that an operation reads stands for that input in the scope
abbrev pub InputIsInScope : List (List ℕ) → Scope → Op → Type 0
InputIsInScope names scope (op.Input k s) =
    (name : List ℕ) × (slice_get names k ≡ Some name) × (named scope name ≡ Some (constant_term (op.Input k s)))
InputIsInScope names scope _ = Unit {0}

-- so does the name of each input that stands in the term
unfoldable mutual
  pub InputsAreInScope : List (List ℕ) → Scope → Term → Type 0
  InputsAreInScope names scope (Apply o ts) = InputIsInScope names scope o × AllInputsAreInScope names scope ts

  pub AllInputsAreInScope : List (List ℕ) → Scope → Operands → Type 0
  AllInputsAreInScope names scope End = Unit {0}
  AllInputsAreInScope names scope (Then t ts) =
      InputsAreInScope names scope t × AllInputsAreInScope names scope ts

-- The bytes are a text, namely this tree and no more. It has a reading where no more lists are nested than may be.
pub record IsTextOf (bytes : List ℕ) (t : Tree) : Type 0 where
  pub text : IsTrue (list_all is_text_byte bytes)
  pub spelled : tokens bytes ≡ flatten (tree.Then t tree.End)
