-- The grammar of terms: which tree of a text is which term. Source: SMT-LIB 2.6, section 3.6 (terms, `let`), theories
-- Core and FixedSizeBitVectors, logic QF_BV; the accesses to a memory are this project's own.
use Rattle.std.specs.Prelude.{◌≡◌, ℕ, ◌<◌, ◌⊎◌, List, [], ◌∷◌, ◌++◌, length, map, Some, IsOk, IsTrue, codes}
use Rattle.collections.specs.Named.{named}
use Rattle.bv_terms.specs.declared.op.Op.{Op}
use Rattle.bv_terms.specs.Signature.{is_access}
use Rattle.bv_terms.specs.Term.{Term}
use Rattle.sexp_read.specs.Words.{is_name, numeral_between}
use Rattle.sexp_read.specs.Tree.{Tree, Trees, Word, Branch, End, Then, word_of, members_of, list_of}
use Rattle.term_text.specs.declared.head.Access.{Access}
use Rattle.term_text.specs.declared.head.Indexed.{Indexed}
use Rattle.term_text.specs.declared.operator.Operator.{Operator}
use Rattle.term_text.specs.declared.operator.Operator.TheVariants.{Operation}
use Rattle.term_text.specs.Words.{operator_named}
use Rattle.term_text.specs.Operator.{judge}
use Rattle.term_text.specs.Written.{written}
use Rattle.term_text.specs.Literal.{literal, decimal_literal, truth_value}
use Rattle.term_text.specs.Head.{begins_with_bv, access_named, access_of, indexed_named, with_indices}
use Rattle.term_text.specs.Reading.{Scope, constant_term, sorts_in, differ}

-- a word is a constant, or a name in scope
abbrev pub IsWordOf : Scope → List ℕ → Term → Type 0
IsWordOf scope word t =
    ((o : Op) × (literal word ≡ Some o) × (t ≡ constant_term o))
    ⊎ (((o : Op) × (truth_value word ≡ Some o) × (t ≡ constant_term o))
    ⊎ (IsTrue (is_name word) × (named scope word ≡ Some t)))

-- `(_ bvX n)`
pub record IsDecimal (head : Tree) (rest : List Tree) (t : Term) : Type 0 where
  pub name : Tree
  pub digits : List ℕ
  pub width : Tree
  pub width_digits : List ℕ
  pub constant : Op
  pub underscore : word_of head ≡ Some (codes "_")
  pub members : rest ≡ name ∷ width ∷ []
  pub begins : word_of name ≡ Some digits
  pub bv : IsTrue (begins_with_bv digits)
  pub ends : word_of width ≡ Some width_digits
  pub number : decimal_literal digits width_digits ≡ Some constant
  pub term : t ≡ constant_term constant

-- `(_ OPERATOR NUMERAL ..)`
pub record IsIndexed (head : Tree) (o : Operator) : Type 0 where
  pub underscore : Tree
  pub name : Tree
  pub word : List ℕ
  pub indices : List Tree
  pub family : Indexed
  pub members : members_of head ≡ Some (underscore ∷ name ∷ indices)
  pub begins : word_of underscore ≡ Some (codes "_")
  pub spelled : word_of name ≡ Some word
  pub named : indexed_named word ≡ Some family
  pub numbers : with_indices family indices ≡ Some o

-- an operator, as a word or with its numbers
abbrev pub IsOperator : Tree → Operator → Type 0
IsOperator head o =
    ((word : List ℕ) × (word_of head ≡ Some word) × (operator_named word ≡ Some o)) ⊎ IsIndexed head o

-- the terms of arguments over which an operator may stand, and the term that it is over them
pub record IsOver (p : ℕ) (o : Operator) (ts : List Term) (t : Term) : Type 0 where
  pub fits : IsOk (judge p o (sorts_in p ts))
  pub term : t ≡ written o (sorts_in p ts) ts

-- the number of bytes of an access, where a pointer has p bits
pub record IsSize (p : ℕ) (tree : Tree) (n : ℕ) : Type 0 where
  pub word : List ℕ
  pub spelled : word_of tree ≡ Some word
  pub number : numeral_between 1 8 word ≡ Some n
  pub access : IsTrue (is_access p n)

-- `(OPERATOR TERM ..)`, by which terms the arguments are
abbrev pub IsApplication : ℕ → Tree → (List Term → Type 0) → Term → Type 0
IsApplication p head AreArguments t =
    (o : Operator) × (ts : List Term) × IsOperator head o × AreArguments ts × IsOver p o ts t

-- `(ACCESS NUMERAL TERM ..)`, by which terms the arguments are
abbrev pub IsAccess : ℕ → Tree → List Tree → (List Term → Type 0) → Term → Type 0
IsAccess p head [] AreArguments t = ⊥
IsAccess p head (size ∷ rest) AreArguments t =
    (word : List ℕ) × (access : Access) × (n : ℕ) × (ts : List Term) × (word_of head ≡ Some word)
    × (access_named word ≡ Some access) × IsSize p size n × AreArguments ts
    × IsOver p (Operation (access_of access n)) ts t

-- the tree is the term, with these names in scope, where a pointer has p bits
abbrev mutual
  pub IsTermOf : ℕ → Scope → Tree → Term → Type 0
  IsTermOf p scope (Word first word) t = IsWordOf scope word t
  IsTermOf p scope (Branch from to End) t = ⊥
  IsTermOf p scope (Branch from to (Then head rest)) t =
      IsDecimal head (list_of rest) t
      ⊎ (IsApplication p head (λ ts. AreTermsOf p scope rest ts) t
      ⊎ (IsAccess p head (list_of rest) (λ ts. AreLaterOf p scope rest ts) t
      ⊎ ((word_of head ≡ Some (codes "let")) × IsBody p scope rest t)))

  -- the trees are the terms, in order
  pub AreTermsOf : ℕ → Scope → Trees → List Term → Type 0
  AreTermsOf p scope End [] = Unit {0}
  AreTermsOf p scope End (t ∷ ts) = ⊥
  AreTermsOf p scope (Then tree trees) [] = ⊥
  AreTermsOf p scope (Then tree trees) (t ∷ ts) = IsTermOf p scope tree t × AreTermsOf p scope trees ts

  -- the trees after the first are the terms, in order
  pub AreLaterOf : ℕ → Scope → Trees → List Term → Type 0
  AreLaterOf p scope End ts = ⊥
  AreLaterOf p scope (Then tree trees) ts = AreTermsOf p scope trees ts

  -- `((NAME TERM) ..) TERM`, with one name or more, of which no two are equal; the bound terms do not see the names
  pub IsBody : ℕ → Scope → Trees → Term → Type 0
  IsBody p scope (Then (Branch from to bindings) (Then body End)) t =
      (bound : Scope) × AreBoundBy p scope bindings bound × (0 < length bound)
      × IsTrue (differ (map (λ b. b.0) bound)) × IsTermOf p (bound ++ scope) body t
  IsBody p scope _ t = ⊥

  -- the trees bind the names to the terms, in order
  pub AreBoundBy : ℕ → Scope → Trees → Scope → Type 0
  AreBoundBy p scope End [] = Unit {0}
  AreBoundBy p scope (Then (Branch from to (Then (Word first name) (Then tree End))) trees) (b ∷ bound) =
      IsTrue (is_name name) × (b.0 ≡ name) × IsTermOf p scope tree b.1 × AreBoundBy p scope trees bound
  AreBoundBy p scope _ _ = ⊥
