-- What is known of a node of a table.
use Rattle.std.proofs.Common.{◌≡◌, ◌∙◌, ℕ, ◌<◌, ◌⊎◌, inl, inr, ⊎_elim, List, [], ◌∷◌, length, get_or, slice_get, Some}
use Rattle.std.proofs.Common.{All, refl}
use Rattle.std.proofs.Common.{sym}
use Rattle.std.proofs.Common.{ap, subst, arith}
use Rattle.std.proofs.lemmas.Option.{slice_get_within}
use Rattle.bv_terms.specs.declared.op.Op.{Op}
use Rattle.bv_terms.specs.declared.op.Op.TheVariants as op
use Rattle.bv_terms.specs.declared.op.TermId.{TermId}
use Rattle.bv_terms.specs.declared.value.Sort.{Sort}
use Rattle.bv_terms.specs.declared.value.Value.{Value}
use Rattle.bv_terms.specs.Signature.{arity}
use Rattle.bv_terms.specs.Term.{Term, Operands, Apply, End, Then, op_value, value, values}
use Rattle.bv_terms.specs.WellSorted.{sort_of}
use Rattle.bv_terms.specs.Subterm.{IsSubterm, IsSubtermAmong}
use Rattle.bv_terms.specs.Table.{Table, operands, terms_of, term_at, IsTable}
use Rattle.bv_terms.proofs.TermLemmas.{IsSorted, IsSorted-of}
use Rattle.bv_terms.proofs.SignatureLemmas.{arity-at_most}
use Rattle.bv_terms.proofs.TableLemmas.{term_at-node}
use Rattle.bv_terms.proofs.MakeLemmas.{node-sorted, arity-of_args}
use Rattle.bv_terms.proofs.SubtermLemmas.{IsSubterm-itself, IsSubterm-through}
use Rattle.bit_blast.specs.Bits.{IsBitOf}
use Rattle.bit_blast.specs.Clauses.{HasNoMemory}
use Rattle.list_lemmas.proofs.Lists.{empty_list}
use Rattle.list_lemmas.proofs.Lookups.{one_element, two_elements, three_elements}

-- a node of an operation over these nodes
pub record IsNode (table : Table) (at : TermId) (o : Op) (args : List TermId) : Type 0 where
  pub kind : Sort
  pub sorted_term : sort_of table.pointer (term_at table at) ≡ Some kind
  pub term : term_at table at ≡ Apply o (operands (terms_of table) args)
  pub sorted : IsSorted table.pointer o (operands (terms_of table) args) kind
  pub count : length args ≡ arity o
  pub earlier : All (λ (a : TermId). a.0 < at.0) args
  pub within : at.0 < length table.nodes

pub node-facts : (table : Table) → IsTable table → (at : TermId) (o : Op) (args : List TermId)
    → slice_get table.nodes at.0 ≡ Some (record { op = o; args = args }) → IsNode table at o args
node-facts table is at o args h =
    let within = slice_get_within table.nodes at.0 _ h in
    let term = term_at-node table is at (record { op = o; args = args }) h in
    let node = node-sorted table is at.0 within in
    let sorted = ap (sort_of table.pointer) (sym term) ∙ node.1 in
    record {
      kind = node.0;
      sorted_term = node.1;
      term = term;
      sorted = IsSorted-of table.pointer o (operands (terms_of table) args) node.0 sorted;
      count = arity-of_args table o args node.0 sorted;
      earlier = is.earlier at.0 (record { op = o; args = args }) h;
      within = within;
    }

-- ---- operands of a term

pub value-apply : (inputs : List Value) (o : Op) (ts : Operands)
    → value inputs (Apply o ts) ≡ op_value inputs o (values inputs ts)
unfolding value
value-apply inputs o ts = refl

pub values-one : (inputs : List Value) (t : Term) → values inputs (Then t End) ≡ value inputs t ∷ []
unfolding value
values-one inputs t = refl

pub values-two : (inputs : List Value) (t u : Term)
    → values inputs (Then t (Then u End)) ≡ value inputs t ∷ value inputs u ∷ []
unfolding value
values-two inputs t u = refl

pub first-below : (o : Op) (t : Term) (ts : Operands) → IsSubterm t (Apply o (Then t ts))
unfolding IsSubterm
first-below o t ts = inr (inl (IsSubterm-itself t))

pub second-below : (o : Op) (t u : Term) (ts : Operands) → IsSubterm u (Apply o (Then t (Then u ts)))
unfolding IsSubterm
second-below o t u ts = inr (inr (inl (IsSubterm-itself u)))

-- a bit of an input in an operation over operands is one in an operand
bit-among : (number k : ℕ) (o : Op) (t : Term) (ts : Operands) (s : Sort)
    → IsSubterm (Apply (op.Input number s) End) (Apply o (Then t ts))
    → IsSubterm (Apply (op.Input number s) End) t ⊎ IsSubtermAmong (Apply (op.Input number s) End) ts
unfolding IsSubterm
bit-among number k o t ts s below = ⊎_elim (λ same. absurd (cc)) (λ among. among) below

none-among : (u : Term) → IsSubtermAmong u End → ⊥
unfolding IsSubterm
none-among u h = h

next-among : (u t : Term) (ts : Operands) → IsSubtermAmong u (Then t ts) → IsSubterm u t ⊎ IsSubtermAmong u ts
unfolding IsSubterm
next-among u t ts h = h

pub bit-of_one : (o : Op) (t : Term) (number k : ℕ) → IsBitOf (Apply o (Then t End)) number k → IsBitOf t number k
bit-of_one o t number k at = (
  at.0,
  ⊎_elim (λ here. here) (λ among. absurd (none-among (Apply (op.Input number at.0) End) among))
      (bit-among number k o t End at.0 at.1),
  at.2,
)

pub bit-of_two : (o : Op) (t u : Term) (number k : ℕ) → IsBitOf (Apply o (Then t (Then u End))) number k
    → IsBitOf t number k ⊎ IsBitOf u number k
bit-of_two o t u number k at =
    let input = Apply (op.Input number at.0) End in
    ⊎_elim (λ here. inl (at.0, here, at.2))
    (λ among. ⊎_elim (λ here. inr (at.0, here, at.2)) (λ none. absurd (none-among input none))
    (next-among input u End among))
    (bit-among number k o t (Then u End) at.0 at.1)

pub bit-through : (t u : Term) → IsSubterm t u → (number k : ℕ) → IsBitOf t number k → IsBitOf u number k
bit-through t u below number k at =
    (at.0, IsSubterm-through (Apply (op.Input number at.0) End) t u at.1 below, at.2)

pub no_memory-below : (t u : Term) → IsSubterm t u → HasNoMemory u → HasNoMemory t
no_memory-below t u below none k at = none k (IsSubterm-through _ t u at below)

-- ---- as many operands as the operation has

pub one-operand : (table : Table) → IsTable table → (at : TermId) (o : Op) (args : List TermId)
    → slice_get table.nodes at.0 ≡ Some (record { op = o; args = args }) → arity o ≡ 1
    → IsNode table at o (get_or args 0 (record { 0 = 0 }) ∷ [])
one-operand table is at o args h one =
    let node = node-facts table is at o args h in
    subst (IsNode table at o)
    (one_element args (record { 0 = 0 }) (omega (arith, node.count)) (omega (arith, node.count))) node

pub two-operands : (table : Table) → IsTable table → (at : TermId) (o : Op) (args : List TermId)
    → slice_get table.nodes at.0 ≡ Some (record { op = o; args = args }) → arity o ≡ 2
    → IsNode table at o (get_or args 0 (record { 0 = 0 }) ∷ get_or args 1 (record { 0 = 0 }) ∷ [])
two-operands table is at o args h two =
    let node = node-facts table is at o args h in
    subst (IsNode table at o)
    (two_elements args (record { 0 = 0 }) (omega (arith, node.count)) (omega (arith, node.count))) node

-- ---- by the number of operands

pub none-node : (table : Table) → IsTable table → (at : TermId) (o : Op) (args : List TermId)
    → slice_get table.nodes at.0 ≡ Some (record { op = o; args = args }) → length args ≡ 0 → IsNode table at o []
none-node table is at o args h none =
    subst (IsNode table at o) (empty_list args (omega (arith, none))) (node-facts table is at o args h)

pub one-node : (table : Table) → IsTable table → (at : TermId) (o : Op) (args : List TermId)
    → slice_get table.nodes at.0 ≡ Some (record { op = o; args = args }) → length args ≡ 1
    → IsNode table at o (get_or args 0 (record { 0 = 0 }) ∷ [])
one-node table is at o args h one =
    subst (IsNode table at o) (one_element args (record { 0 = 0 }) (omega (arith, one)) (omega (arith, one)))
    (node-facts table is at o args h)

pub two-node : (table : Table) → IsTable table → (at : TermId) (o : Op) (args : List TermId)
    → slice_get table.nodes at.0 ≡ Some (record { op = o; args = args }) → length args ≡ 2
    → IsNode table at o (get_or args 0 (record { 0 = 0 }) ∷ get_or args 1 (record { 0 = 0 }) ∷ [])
two-node table is at o args h two =
    subst (IsNode table at o) (two_elements args (record { 0 = 0 }) (omega (arith, two)) (omega (arith, two)))
    (node-facts table is at o args h)

pub three-node : (table : Table) → IsTable table → (at : TermId) (o : Op) (args : List TermId)
    → slice_get table.nodes at.0 ≡ Some (record { op = o; args = args }) → length args ≡ 3
    → IsNode table at o
    (get_or args 0 (record { 0 = 0 }) ∷ get_or args 1 (record { 0 = 0 }) ∷ get_or args 2 (record { 0 = 0 }) ∷ [])
three-node table is at o args h three =
    subst (IsNode table at o) (three_elements args (record { 0 = 0 }) (omega (arith, three)) (omega (arith, three)))
    (node-facts table is at o args h)

-- an operation has at most three operands
pub three-left : (table : Table) → IsTable table → (at : TermId) (o : Op) (args : List TermId)
    → slice_get table.nodes at.0 ≡ Some (record { op = o; args = args })
    → (length args ≡ 0 → ⊥) → (length args ≡ 1 → ⊥) → (length args ≡ 2 → ⊥) → length args ≡ 3
three-left table is at o args h none one two =
    let node = node-facts table is at o args h in
    omega (arith, none, one, two, node.count, arity-at_most o)
